use Rattle.xml_text.proofs.Scans.{number_end}
use Rattle.xml_text.proofs.scan.number_at.Goals as goal

pub returns-then-text-at : goal.returns-then-text-at
returns-then-text-at c = number_end _ _ c.if-text-at.true
