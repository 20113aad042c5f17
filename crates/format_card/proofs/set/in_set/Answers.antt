use mathlib.Core.Path.{refl}
use Rattle.format_card.specs.Inner.Sets.{in_set}
use Rattle.format_card.proofs.set.in_set.Goals as goal

pub returns : goal.returns
unfolding in_set
returns c = refl
