use Rattle.run_emit.proofs.Puts.{use_plain, use_numbered}
use Rattle.run_emit.proofs.put.put_use.Goals as goal

pub returns-then-number-eq0 : goal.returns-then-number-eq0
returns-then-number-eq0 c = use_plain _ _ _ c.if-number-eq0.true c.put.ensures

pub returns : goal.returns
returns c = use_numbered _ _ _ c.if-number-eq0.false c.put-2.ensures
