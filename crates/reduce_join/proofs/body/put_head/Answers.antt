use Rattle.reduce_join.proofs.Splices.{head_plain, head_numbered}
use Rattle.reduce_join.proofs.body.put_head.Goals as goal

pub returns-then-number-eq0 : goal.returns-then-number-eq0
returns-then-number-eq0 c = head_plain _ _ _ _ _ _ _ _ c.if-number-eq0.true c.put.ensures

pub returns : goal.returns
returns c = head_numbered _ _ _ _ _ _ _ _ c.if-number-eq0.false c.put-2.ensures
