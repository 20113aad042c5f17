use mathlib.Core.Path.{sym, ◌∙◌}
use Rattle.search_levels.proofs.Turns.{code_inside, next_inside, number_some, place_inside, argument_asks, argument_step, first_differs, name_step, token_inside, second_differs, token_step}
use Rattle.search_levels.proofs.clause.step.Goals as goal

pub body_at-sign-requires : goal.body_at-sign-requires
body_at-sign-requires c = let p = c.requires in code_inside _ _ _ _ _ _ _ _ _ _ _ _ _ _ _ _ _ p.7

pub body_at-i-requires : goal.body_at-i-requires
body_at-i-requires c = let p = c.requires in next_inside _ _ _ _ _ _ _ _ _ _ _ _ _ _ _ _ _ p.7

pub overflow_sub-i : goal.overflow_sub-i
overflow_sub-i c = let p = c.requires in number_some _ _ _ _ _ _ _ _ _ _ _ _ _ _ _ _ _ p.7 (sym c.body_at-sign.ensures.0 ∙ c.if-sign-eq-ARGUMENT.true) c.body_at-i.ensures.0

pub source_at-requires : goal.source_at-requires
source_at-requires c = let p = c.requires in place_inside _ _ _ _ _ _ _ _ _ _ _ _ _ _ _ _ _ p.7 (sym c.body_at-sign.ensures.0 ∙ c.if-sign-eq-ARGUMENT.true) c.body_at-i.ensures.0

pub argument-requires : goal.argument-requires
argument-requires c = let p = c.requires in (p.1, p.2, p.6, _, argument_asks _ _ _ _ _ _ _ _ _ _ _ _ _ _ _ _ _ p.7 (sym c.body_at-sign.ensures.0 ∙ c.if-sign-eq-ARGUMENT.true) c.body_at-i.ensures.0 c.source_at.ensures.0 c.byte_at-kind.ensures)

pub returns-then-sign-eq-ARGUMENT : goal.returns-then-sign-eq-ARGUMENT
returns-then-sign-eq-ARGUMENT c = λ stop f ks js cs us b h. argument_step _ _ _ _ _ _ _ _ _ _ _ _ _ _ _ _ _ h (sym c.body_at-sign.ensures.0 ∙ c.if-sign-eq-ARGUMENT.true) c.body_at-i.ensures.0 (c.argument.ensures f ks b _ (argument_asks _ _ _ _ _ _ _ _ _ _ _ _ _ _ _ _ _ h (sym c.body_at-sign.ensures.0 ∙ c.if-sign-eq-ARGUMENT.true) c.body_at-i.ensures.0 c.source_at.ensures.0 c.byte_at-kind.ensures))

pub body_at-requires : goal.body_at-requires
body_at-requires c = let p = c.requires in next_inside _ _ _ _ _ _ _ _ _ _ _ _ _ _ _ _ _ p.7

pub returns-then-from-body_at : goal.returns-then-from-body_at
returns-then-from-body_at c = λ stop f ks js cs us b h. first_differs _ _ _ _ _ _ _ _ _ _ _ _ _ _ _ _ _ h (λ e. c.if-sign-eq-ARGUMENT.false (c.body_at-sign.ensures.0 ∙ e)) (λ e. c.if-from-body_at.true (c.from.ensures ∙ (c.byte_at.ensures ∙ (sym e ∙ sym c.body_at.ensures.0))))

pub returns-then-sign-ne-TOKEN : goal.returns-then-sign-ne-TOKEN
returns-then-sign-ne-TOKEN c = λ stop f ks js cs us b h. name_step _ _ _ _ _ _ _ _ _ _ _ _ _ _ _ _ _ h (λ e. c.if-sign-eq-ARGUMENT.false (c.body_at-sign.ensures.0 ∙ e)) (sym c.body_at.ensures.0 ∙ (sym c.if-from-body_at.false ∙ (c.from.ensures ∙ c.byte_at.ensures))) (λ e. c.if-sign-ne-TOKEN.true (c.body_at-sign.ensures.0 ∙ e))

pub body_at-requires-2 : goal.body_at-requires-2
body_at-requires-2 c = let p = c.requires in token_inside _ _ _ _ _ _ _ _ _ _ _ _ _ _ _ _ _ p.7 (λ e. c.if-sign-eq-ARGUMENT.false (c.body_at-sign.ensures.0 ∙ e)) (sym c.body_at.ensures.0 ∙ (sym c.if-from-body_at.false ∙ (c.from.ensures ∙ c.byte_at.ensures))) (sym c.body_at-sign.ensures.0 ∙ c.if-sign-ne-TOKEN.false)

pub returns-then-from-body_at-2 : goal.returns-then-from-body_at-2
returns-then-from-body_at-2 c = λ stop f ks js cs us b h. second_differs _ _ _ _ _ _ _ _ _ _ _ _ _ _ _ _ _ h (λ e. c.if-sign-eq-ARGUMENT.false (c.body_at-sign.ensures.0 ∙ e)) (sym c.body_at.ensures.0 ∙ (sym c.if-from-body_at.false ∙ (c.from.ensures ∙ c.byte_at.ensures))) (sym c.body_at-sign.ensures.0 ∙ c.if-sign-ne-TOKEN.false) (λ e. c.if-from-body_at-2.true (c.from-2.ensures ∙ (c.byte_at-2.ensures ∙ (sym e ∙ sym c.body_at-2.ensures.0))))

pub returns : goal.returns
returns c = λ stop f ks js cs us b h. token_step _ _ _ _ _ _ _ _ _ _ _ _ _ _ _ _ _ h (λ e. c.if-sign-eq-ARGUMENT.false (c.body_at-sign.ensures.0 ∙ e)) (sym c.body_at.ensures.0 ∙ (sym c.if-from-body_at.false ∙ (c.from.ensures ∙ c.byte_at.ensures))) (sym c.body_at-sign.ensures.0 ∙ c.if-sign-ne-TOKEN.false) (sym c.body_at-2.ensures.0 ∙ (sym c.if-from-body_at-2.false ∙ (c.from-2.ensures ∙ c.byte_at-2.ensures)))
