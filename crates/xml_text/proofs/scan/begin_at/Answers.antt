use Rattle.xml_text.proofs.Scans.{begin_digit, begin_digits}
use Rattle.xml_text.proofs.scan.begin_at.Goals as goal

pub returns-then-kind-lt10 : goal.returns-then-kind-lt10
returns-then-kind-lt10 c = begin_digit _ _ _ _ _ c.if-kind-lt10.true c.word_at.ensures

pub returns : goal.returns
returns c = begin_digits _ _ _ _ _ c.if-kind-lt10.false c.requires.0 c.word_at-2.ensures
