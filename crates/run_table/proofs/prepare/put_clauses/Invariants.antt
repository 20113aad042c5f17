use Prim.Native.Nat.{◌-◌}
use lib.ListN.{length}
use Rattle.run_table.proofs.Itemed.{Putting}
use Rattle.run_table.proofs.prepare.put_clauses.Given as goal

abbrev pub invariant-loop-p : goal.invariant-loop-p
invariant-loop-p l = Putting l.body l.initial.table l.table l.p

abbrev pub decreases-loop-p : goal.decreases-loop-p
decreases-loop-p l = length l.body - l.p
