use Prim.Native.Nat.{◌-◌}
use lib.ListN.{length}
use Rattle.reduce_merge.proofs.Containing.{Containing}
use Rattle.reduce_merge.proofs.within.lies_within.Given as goal

abbrev pub invariant-loop-p : goal.invariant-loop-p
invariant-loop-p l = Containing l.a l.b l.p l.q

abbrev pub decreases-loop-p : goal.decreases-loop-p
decreases-loop-p l = length l.a - l.p
