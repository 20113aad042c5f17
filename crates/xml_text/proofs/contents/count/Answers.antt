use Rattle.xml_text.proofs.Takes.{count_done}
use Rattle.xml_text.proofs.contents.count.Goals as goal

pub returns : goal.returns
returns c = count_done _ _ _ c.loop-at.invariant.counted c.loop-at-test.false
