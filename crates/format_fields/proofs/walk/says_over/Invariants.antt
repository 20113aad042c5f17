use Prim.Native.Nat.{◌-◌}
use mathlib.Core.Path.{◌≡◌}
use mathlib.Core.Bool.{◌||◌}
use lib.ListN.{length}
use lib.Dec.{eqb}
use Rattle.format_fields.specs.Lists.{any}
use Rattle.format_fields.specs.Fields.{has_over}
use Rattle.format_fields.specs.Inner.Places.{places_from, over_at}
use Rattle.format_fields.proofs.walk.says_over.Given as goal

abbrev pub invariant-loop-p : goal.invariant-loop-p
invariant-loop-p l = any (over_at (λ tag. eqb tag l.first || eqb tag l.second) l.limit l.s) (places_from l.s l.p) ≡ has_over (λ tag. eqb tag l.first || eqb tag l.second) l.limit l.s

abbrev pub decreases-loop-p : goal.decreases-loop-p
decreases-loop-p l = length l.s - l.p
