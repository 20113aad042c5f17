use Prim.Native.Nat.{◌-◌}
use lib.ListN.{length}
use Rattle.reduce_operators.proofs.Keeping.{Keeping}
use Rattle.reduce_operators.proofs.keep.keep_items.Given as goal

abbrev pub invariant-loop-p : goal.invariant-loop-p
invariant-loop-p l = Keeping l.body l.source l.index l.initial.out l.out l.p l.n

abbrev pub decreases-loop-p : goal.decreases-loop-p
decreases-loop-p l = length l.body - l.p
