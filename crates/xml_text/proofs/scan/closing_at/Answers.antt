use Rattle.xml_text.proofs.Scans.{closes_usual}
use Rattle.xml_text.proofs.scan.closing_at.Goals as goal

pub returns-then-size-eq-COMMON_CLOSING : goal.returns-then-size-eq-COMMON_CLOSING
returns-then-size-eq-COMMON_CLOSING c = closes_usual _ _ _ _ c.if-size-eq-COMMON_CLOSING.true c.same_at.ensures
