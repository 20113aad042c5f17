use Prim.Native.Nat.{◌-◌}
use lib.ListN.{length}
use Rattle.check_wellformed.proofs.Matching.{Clearing}
use Rattle.check_wellformed.proofs.clauses.clauses_end.Given as goal

abbrev pub invariant-loop-at : goal.invariant-loop-at
invariant-loop-at l = Clearing l.body l.m l.kind l.key l.p l.at l.to

abbrev pub decreases-loop-at : goal.decreases-loop-at
decreases-loop-at l = length l.body - l.at
