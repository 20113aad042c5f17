use Rattle.run_measure.specs.Inner.Counting.{width_in, width_of}
use Rattle.format_fields.specs.Inner.Places.{places_from}
use lib.ListN.{length}
use mathlib.Core.Path.{◌≡◌}
use Prim.Native.Nat.{◌-◌, ◌≤◌}
use Rattle.run_measure.proofs.count.width_of.Given as goal

abbrev pub invariant-loop-p : goal.invariant-loop-p
invariant-loop-p l = (width_in l.body (places_from l.body l.p) l.width ≡ width_of l.body) × (1 ≤ l.width) × (l.width ≤ 256)

abbrev pub decreases-loop-p : goal.decreases-loop-p
decreases-loop-p l = length l.body - l.p
