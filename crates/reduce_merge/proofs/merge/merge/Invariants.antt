use Prim.Native.Nat.{◌+◌, ◌-◌}
use lib.ListN.{length}
use Rattle.reduce_merge.proofs.Turns.{Merging}
use Rattle.reduce_merge.proofs.merge.merge.Given as goal

abbrev pub invariant-loop-p : goal.invariant-loop-p
invariant-loop-p l = Merging l.leading_tag l.a l.b l.initial.out l.out l.from l.p l.q l.n

abbrev pub decreases-loop-p : goal.decreases-loop-p
decreases-loop-p l = (length l.a - l.p) + (length l.b - l.q)
