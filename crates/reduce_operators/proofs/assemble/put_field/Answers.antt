use Rattle.reduce_operators.proofs.Given.{head_stored}
use Rattle.reduce_operators.proofs.assemble.put_field.Goals as goal

pub returns : goal.returns
returns c = head_stored _ c.args.s.now _ _ _ _ _ c.put_pair.ensures c.put_both.ensures
