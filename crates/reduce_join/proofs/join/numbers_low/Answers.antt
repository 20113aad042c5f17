use mathlib.Core.Path.{◌∙◌}
use Rattle.reduce_join.proofs.Joined.{low_not, low_both}
use Rattle.reduce_join.proofs.join.numbers_low.Goals as goal

pub returns-then-numbers_below : goal.returns-then-numbers_below
returns-then-numbers_below c = λ b d e g. low_both (c.numbers_below.ensures b e) c.if-numbers_below.true (c.numbers_below-then-numbers_below.ensures d g)

pub returns-else-numbers_below : goal.returns-else-numbers_below
returns-else-numbers_below c = λ b d e g. c.if-numbers_below.false ∙ low_not _ (c.numbers_below.ensures b e) c.if-numbers_below.false
