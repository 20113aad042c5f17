use Rattle.reduce_operators.proofs.Accepted.{translation_copied}
use Rattle.reduce_operators.proofs.copy.translation.Goals as goal

pub returns : goal.returns
returns c = λ f e. translation_copied _ _ c.put.auto.out _ _ _ f e c.requires.1 c.put.ensures c.limited.ensures
