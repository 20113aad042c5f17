use Prim.Native.Nat.{◌-◌}
use Rattle.reduce_operators.proofs.SameItem.{Kinding}
use Rattle.reduce_operators.proofs.identity.put_marked.Given as goal

abbrev pub invariant-loop-k : goal.invariant-loop-k
invariant-loop-k l = Kinding l.marked l.initial.out l.out l.n l.k

abbrev pub decreases-loop-k : goal.decreases-loop-k
decreases-loop-k l = 32 - l.k
