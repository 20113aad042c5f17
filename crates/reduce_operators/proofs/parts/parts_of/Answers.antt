use Rattle.reduce_operators.proofs.TranslationLaws.{accepted_spelt}
use Rattle.reduce_operators.proofs.Accepted.{accepted_there}
use Rattle.reduce_operators.proofs.parts.parts_of.Goals as goal

pub source_of-requires : goal.source_of-requires
source_of-requires c = accepted_there _ c.requires

pub target_of-requires : goal.target_of-requires
target_of-requires c = accepted_there _ c.requires

pub body_of-requires : goal.body_of-requires
body_of-requires c = accepted_there _ c.requires

pub returns : goal.returns
returns c = λ f e. accepted_spelt _ f e _ _ _ c.source_of.ensures c.target_of.ensures c.body_of.ensures
