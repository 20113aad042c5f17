use Prim.Native.Nat.{◌-◌}
use lib.ListN.{length}
use Rattle.check_wellformed.proofs.Matching.{Walk}
use Rattle.check_wellformed.proofs.clauses.clauses_match.Given as goal

abbrev pub invariant-loop-from : goal.invariant-loop-from
invariant-loop-from l = Walk l.source l.q l.body l.p l.from l.to l.m

abbrev pub decreases-loop-from : goal.decreases-loop-from
decreases-loop-from l = length l.source - l.from
