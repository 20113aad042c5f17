use Prim.Native.Nat.{◌-◌}
use lib.ListN.{length}
use Rattle.run_table.specs.Inner.Filling.{target_index, Beside}
use Rattle.run_table.proofs.Clauses.{Walk}
use Rattle.run_table.proofs.prepare.span_all.Given as goal

abbrev pub invariant-loop-p : goal.invariant-loop-p
invariant-loop-p l = Beside l.initial.table l.table × Walk l.target (target_index l.initial.table) l.body l.uses l.initial.table l.table l.p

abbrev pub decreases-loop-p : goal.decreases-loop-p
decreases-loop-p l = length l.body - l.p
