use mathlib.Core.Path.{refl}
use Rattle.tree_reader.proofs.Lookup.{zeros}
use Rattle.reduce_operators.proofs.Numbering.{zero_kept}
use Rattle.reduce_operators.proofs.numbers.numbers_kept.Goals as goal

pub returns-then-numbers_below : goal.returns-then-numbers_below
returns-then-numbers_below c = λ b d e q. zero_kept b d _ (c.numbers_below.ensures b e) c.if-numbers_below.true

pub put_uses-requires : goal.put_uses-requires
put_uses-requires c = (c.requires.2, refl, zeros 8192, c.requires.1)
