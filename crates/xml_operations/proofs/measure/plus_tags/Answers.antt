use Rattle.xml_operations.proofs.Measures.{tags_sum}
use Rattle.xml_operations.proofs.measure.plus_tags.Goals as goal

pub returns : goal.returns
returns c = tags_sum c.from.ensures c.from-2.ensures c.width.ensures.0 c.width-2.ensures.0 c.saturating_add.ensures
