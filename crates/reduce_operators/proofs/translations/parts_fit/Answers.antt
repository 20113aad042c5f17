use mathlib.Core.Path.{sym, ◌∙◌}
use Rattle.format_fields.proofs.Truth.{not_both}
use Rattle.reduce_operators.proofs.TranslationLaws.{body_sorted, body_read, body_short, sources_unfit, targets_unfit, numbers_fit, numbers_unfit, all_fit, source_rises, target_rises}
use Rattle.reduce_operators.proofs.translations.parts_fit.Goals as goal
use Rattle.reduce_operators.proofs.translations.parts_fit.Goals.{then-languages_fit, else-languages_fit, then-languages_fit-2, else-languages_fit-2}

pub languages_fit-requires : goal.languages_fit-requires
languages_fit-requires c = (source_rises _ _ _ _ c.requires.0.1, source_rises _ _ _ _ c.requires.1.1)

pub languages_fit-requires-then-languages_fit : goal.languages_fit-requires-then-languages_fit
languages_fit-requires-then-languages_fit c = (target_rises _ _ _ _ c.requires.0.1, target_rises _ _ _ _ c.requires.1.1)

pub numbers_agree-requires : goal.numbers_agree-requires
numbers_agree-requires c = ((_, body_read _ _ _ _ c.requires.0.1), (_, body_read _ _ _ _ c.requires.1.1), body_short _ _ _ _ c.requires.0.1, body_short _ _ _ _ c.requires.1.1)

pub agree-requires : goal.agree-requires
agree-requires c = (body_sorted _ _ _ _ c.requires.0.1, body_sorted _ _ _ _ c.requires.1.1)

pub returns-then-numbers_agree : goal.returns-then-numbers_agree
returns-then-numbers_agree c = λ f g p q.
    elim c.if-languages_fit-2.branch [
      | then-languages_fit-2 v ↦ elim c.if-languages_fit.branch [
        | then-languages_fit w ↦ all_fit _ _ _ _ _ _ f g p q _ c.languages_fit.ensures w.if-languages_fit.true _ w.languages_fit-then-languages_fit.ensures (sym w.value-is ∙ v.if-languages_fit-2.true) _ (numbers_fit _ _ _ _ _ _ f g p q _ v.numbers_agree.ensures) (sym v.value-is ∙ c.if-numbers_agree.true) _ c.agree.ensures
        | else-languages_fit w ↦ not_both v.if-languages_fit-2.true (w.value-is ∙ w.if-languages_fit.false)
      ]
      | else-languages_fit-2 v ↦ not_both c.if-numbers_agree.true (v.value-is ∙ v.if-languages_fit-2.false)
    ]

pub returns-else-numbers_agree : goal.returns-else-numbers_agree
returns-else-numbers_agree c = λ f g p q.
    c.if-numbers_agree.false
    ∙ elim c.if-languages_fit-2.branch [
      | then-languages_fit-2 v ↦ elim c.if-languages_fit.branch [
        | then-languages_fit w ↦ numbers_unfit _ _ _ _ _ _ f g p q _ c.languages_fit.ensures w.if-languages_fit.true _ w.languages_fit-then-languages_fit.ensures (sym w.value-is ∙ v.if-languages_fit-2.true) _ (numbers_fit _ _ _ _ _ _ f g p q _ v.numbers_agree.ensures) (sym v.value-is ∙ c.if-numbers_agree.false)
        | else-languages_fit w ↦ not_both v.if-languages_fit-2.true (w.value-is ∙ w.if-languages_fit.false)
      ]
      | else-languages_fit-2 v ↦ elim c.if-languages_fit.branch [
        | then-languages_fit w ↦ targets_unfit _ _ _ _ _ _ f g p q _ c.languages_fit.ensures w.if-languages_fit.true _ w.languages_fit-then-languages_fit.ensures (sym w.value-is ∙ v.if-languages_fit-2.false)
        | else-languages_fit w ↦ sources_unfit _ _ _ _ _ _ f g p q _ c.languages_fit.ensures w.if-languages_fit.false
      ]
    ]
