use Rattle.xml_text.proofs.Takes.{take_short, take_closing}
use Rattle.xml_text.proofs.contents.take.Goals as goal

pub returns-then-text-at-lt-SHORTEST : goal.returns-then-text-at-lt-SHORTEST
returns-then-text-at-lt-SHORTEST c = take_short _ _ _ _ c.requires.0 c.if-text-at-lt-SHORTEST.true

pub returns-then-sign-eq-SLASH : goal.returns-then-sign-eq-SLASH
returns-then-sign-eq-SLASH c = take_closing _ _ _ _ c.if-sign-eq-SLASH.true c.requires.1 c.behind.ensures
