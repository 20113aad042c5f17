use Prim.Native.Nat.{◌-◌}
use mathlib.Core.Path.{◌≡◌}
use mathlib.Core.Bool.{true}
use lib.ListN.{length}
use Rattle.format_fields.specs.Lists.{all, any}
use Rattle.format_fields.specs.Inner.Places.{places_from, places}
use Rattle.format_pack.specs.Inner.Parts.{part_whole, rises_at, clash_at}
use Rattle.format_pack.proofs.order.languages_clash.Given as goal

abbrev pub invariant-loop-p : goal.invariant-loop-p
invariant-loop-p l = (all (part_whole l.s) (places_from l.s l.p) ≡ true) × (all (rises_at l.s) (places_from l.s l.p) ≡ true) × (any (clash_at l.s) (places_from l.s l.p) ≡ any (clash_at l.s) (places l.s))

abbrev pub decreases-loop-p : goal.decreases-loop-p
decreases-loop-p l = length l.s - l.p
