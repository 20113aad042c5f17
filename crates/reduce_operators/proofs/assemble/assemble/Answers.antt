use Rattle.reduce_operators.proofs.Given.{stored_gives}
use Rattle.reduce_operators.proofs.assemble.assemble.Goals as goal

pub returns : goal.returns
returns c = stored_gives 4096 _ _ _ c.requires.2 c.put_parts.auto.out _ _ c.put_parts.ensures c.limited.ensures
