use Rattle.std.proofs.Common.{◌+◌, ◌*◌, ◌-◌, length}
use Rattle.xml_operations.proofs.Sizes.{Open}
use Rattle.xml_operations.proofs.measure.measure_all.Given as goal

abbrev pub invariant-loop-row : goal.invariant-loop-row
invariant-loop-row l = Open l.language l.index l.root l.tree l.rows l.depth l.row.first l.row.last l.ends

abbrev pub decreases-loop-row : goal.decreases-loop-row
decreases-loop-row l = 2 * (length l.tree - l.ends.tree) + l.depth
