use Rattle.reduce_operators.proofs.Accepted.{source_accepted}
use Rattle.reduce_operators.proofs.Accepted.{accepted_there}
use Rattle.reduce_operators.proofs.copy.source.Goals as goal

pub language-requires : goal.language-requires
language-requires c = ((_, source_accepted _ _ c.requires.0.1 _ c.source_of.ensures), c.requires.1)

pub source_of-requires : goal.source_of-requires
source_of-requires c = accepted_there _ c.requires.0

pub returns : goal.returns
returns c = λ f e. c.language.ensures f.source (source_accepted _ f e _ c.source_of.ensures)
