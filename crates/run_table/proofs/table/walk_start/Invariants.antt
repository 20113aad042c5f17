use Prim.Native.Nat.{◌-◌}
use Rattle.run_table.proofs.Finding.{Finding}
use Rattle.run_table.proofs.table.walk_start.Given as goal

abbrev pub invariant-loop-p : goal.invariant-loop-p
invariant-loop-p l = Finding l.table l.kind l.name l.number l.p

abbrev pub decreases-loop-p : goal.decreases-loop-p
decreases-loop-p l = 4091 - l.p
