use Prim.Native.Nat.{◌+◌, ◌-◌, ◌*◌}
use Rattle.run_emit.proofs.Rows.{RowHeld}
use Rattle.run_emit.proofs.run.+run_argument_run_codes_run_node_run_row.Given as goal

abbrev pub decreases-run_argument : goal.decreases-run_argument
decreases-run_argument l = 2 * l.left

abbrev pub decreases-run_row : goal.decreases-run_row
decreases-run_row l = 2 * l.left

abbrev pub decreases-run_codes : goal.decreases-run_codes
decreases-run_codes l = 2 * l.left + 1

abbrev pub decreases-run_node : goal.decreases-run_node
decreases-run_node l = 2 * l.left

abbrev pub invariant-run_row-loop-c : goal.invariant-run_row-loop-c
invariant-run_row-loop-c l = RowHeld l.reading.syntax l.reading.table.now l.reading.input.now l.reading.ends.now l.initial.node l.node l.at l.stop l.left l.c l.initial.output l.output l.pos l.p

abbrev pub decreases-run_row-loop-c : goal.decreases-run_row-loop-c
decreases-run_row-loop-c l = l.stop - l.c
