use Rattle.std.proofs.Common.{◌+◌, ◌*◌, ◌-◌, length}
use Rattle.xml_text.proofs.Rows.{Open}
use Rattle.xml_text.proofs.import.text_at.Given as goal

abbrev pub invariant-loop-row : goal.invariant-loop-row
invariant-loop-row l = Open l.language l.index l.root l.text l.rows l.depth l.row.first l.row.last l.to

abbrev pub decreases-loop-row : goal.decreases-loop-row
decreases-loop-row l = 2 * (length l.text - l.to) + l.depth
