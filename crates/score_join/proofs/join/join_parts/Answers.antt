use mathlib.Core.Path.{sym, ◌∙◌}
use Rattle.score_join.proofs.Answering.{numbers_unfit, numbers_plain}
use Rattle.score_join.proofs.join.join_parts.Goals as goal

pub returns-then-not-is_plain : goal.returns-then-not-is_plain
returns-then-not-is_plain c = λ f z. numbers_unfit f _ _ (c.is_plain.ensures f.body z.pieces.body) (c.if-not-is_plain.true)

pub returns : goal.returns
returns c = λ f z. numbers_plain f _ _ (c.is_plain.ensures f.body z.pieces.body) (c.if-not-is_plain.false) (c.join_plain.ensures f z (sym (c.is_plain.ensures f.body z.pieces.body) ∙ c.if-not-is_plain.false))
