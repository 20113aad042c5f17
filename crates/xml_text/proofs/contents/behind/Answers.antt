use Rattle.std.proofs.Common.{arith}
use Rattle.xml_text.proofs.Takes.{behind_end, behind_found, behind_again}
use Rattle.xml_text.proofs.contents.behind.Goals as goal

pub returns-then-text-to : goal.returns-then-text-to
returns-then-text-to c = behind_found _ _ _ _ c.loop-to.invariant (omega arith) c.loop-to-test.true c.if-text-to.true

pub loop-to-preserved : goal.loop-to-preserved
loop-to-preserved c = behind_again _ _ _ _ c.loop-to.invariant (omega arith) c.loop-to-test.true c.if-text-to.false

pub returns : goal.returns
returns c = behind_end _ _ _ c.loop-to.to c.loop-to.invariant (omega arith) (omega arith)
