use Rattle.reduce_join.proofs.Splices.{mapping_plain, mapping_numbered}
use Rattle.reduce_join.proofs.body.put_mapping.Goals as goal

pub returns-then-number-eq0 : goal.returns-then-number-eq0
returns-then-number-eq0 c = mapping_plain _ _ _ _ _ _ _ c.if-number-eq0.true c.put.ensures

pub returns : goal.returns
returns c = mapping_numbered _ _ _ _ _ _ _ c.if-number-eq0.false c.put-2.ensures
