use Prim.Native.Nat.{◌-◌}
use mathlib.Core.Path.{◌≡◌}
use mathlib.Core.Bool.{true}
use lib.ListN.{length}
use Rattle.format_fields.specs.Lists.{all, any}
use Rattle.format_fields.specs.Inner.Places.{places_from, tag_is}
use Rattle.format_language.specs.Inner.Entries.{entry_whole, result_marked}
use Rattle.format_language.proofs.clash.results_marked.Given as goal

abbrev pub invariant-loop-p : goal.invariant-loop-p
invariant-loop-p l = (all (entry_whole l.s) (places_from l.s l.p) ≡ true) × (all (tag_is 0x12 l.s) (places_from l.s l.p) ≡ true) × (any (result_marked l.s l.kinds) (places_from l.s l.p) ≡ any (result_marked l.s l.kinds) (places_from l.s l.q))

abbrev pub decreases-loop-p : goal.decreases-loop-p
decreases-loop-p l = length l.s - l.p
