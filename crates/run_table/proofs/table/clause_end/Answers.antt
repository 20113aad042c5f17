use mathlib.Core.Path.{sym, ◌∙◌}
use Rattle.run_table.proofs.Finding.{clause_room, end_span, end_two, end_three}
use Rattle.run_table.proofs.table.clause_end.Goals as goal

pub body_at-sign-requires : goal.body_at-sign-requires
body_at-sign-requires c = clause_room _ _ c.requires.0 c.requires.1

pub span_at-requires : goal.span_at-requires
span_at-requires c = clause_room _ _ c.requires.0 c.requires.1

pub returns-then-sign-eq1 : goal.returns-then-sign-eq1
returns-then-sign-eq1 c = λ a w. c.span_at.ensures.0 ∙ end_span _ _ (sym c.body_at-sign.ensures.0 ∙ c.if-sign-eq1.true) a w

pub returns-then-sign-eq3 : goal.returns-then-sign-eq3
returns-then-sign-eq3 c = end_two _ _ (sym c.body_at-sign.ensures.0 ∙ c.if-sign-eq3.true)

pub returns : goal.returns
returns c = end_three _ _ (λ e. c.if-sign-eq1.false (c.body_at-sign.ensures.0 ∙ e)) (λ e. c.if-sign-eq3.false (c.body_at-sign.ensures.0 ∙ e))
