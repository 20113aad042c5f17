use Prim.Native.Nat.{◌-◌}
use mathlib.Core.Path.{◌≡◌}
use mathlib.Core.Bool.{true}
use lib.ListN.{length}
use Rattle.format_fields.specs.Lists.{all}
use Rattle.format_fields.specs.Inner.Places.{places_from, places}
use Rattle.format_language.specs.Inner.Entries.{entry_whole}
use Rattle.check_wellformed.specs.Inner.Tests.{mark_entries}
use Rattle.check_wellformed.proofs.kinds.mark_entries.Given as goal

abbrev pub invariant-loop-p : goal.invariant-loop-p
invariant-loop-p l = (length l.kinds ≡ length l.initial.kinds) × (all (entry_whole l.s) (places_from l.s l.p) ≡ true) × (mark_entries l.s l.kinds (places_from l.s l.p) ≡ mark_entries l.s l.initial.kinds (places l.s))

abbrev pub decreases-loop-p : goal.decreases-loop-p
decreases-loop-p l = length l.s - l.p
