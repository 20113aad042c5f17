use native.Mathlib.Omega.{arith}
use mathlib.Core.Path.{sym, ◌∙◌}
use Rattle.reduce_join.proofs.join.number_limit.Goals as goal

pub returns-then-numbers_below : goal.returns-then-numbers_below
returns-then-numbers_below c = (omega arith, λ b q e. sym (c.numbers_below.ensures b q) ∙ c.if-numbers_below.true)
