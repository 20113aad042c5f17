use Rattle.reduce_operators.proofs.Accepted.{target_accepted}
use Rattle.reduce_operators.proofs.Accepted.{accepted_there}
use Rattle.reduce_operators.proofs.copy.target.Goals as goal

pub language-requires : goal.language-requires
language-requires c = ((_, target_accepted _ _ c.requires.0.1 _ c.target_of.ensures), c.requires.1)

pub target_of-requires : goal.target_of-requires
target_of-requires c = accepted_there _ c.requires.0

pub returns : goal.returns
returns c = λ f e. c.language.ensures f.target (target_accepted _ f e _ c.target_of.ensures)
