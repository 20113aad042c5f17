use Prim.Native.Nat.{◌-◌, ◌≤◌}
use Rattle.run_table.proofs.table.rank_of.Given as goal

abbrev pub invariant-loop-p : goal.invariant-loop-p
invariant-loop-p l = l.rank ≤ l.p

abbrev pub decreases-loop-p : goal.decreases-loop-p
decreases-loop-p l = 4091 - l.p
