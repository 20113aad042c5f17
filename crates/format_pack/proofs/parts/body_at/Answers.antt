use Rattle.format_pack.proofs.Standing.{accepted_whole, body_found}
use Rattle.format_pack.proofs.parts.body_at.Goals as goal

pub contents_of-requires : goal.contents_of-requires
contents_of-requires c = accepted_whole _ c.requires.0 c.requires.1

pub returns-clause-is : goal.returns-clause-is
returns-clause-is c = λ p x e g. body_found _ _ p e c.contents_of.ensures.is x g
