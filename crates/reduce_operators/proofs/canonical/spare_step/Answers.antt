use mathlib.Core.Path.{sym, ◌∙◌}
use borrow.Author.Tests.{eq-eqb, eqb-true, ne_eqb}
use Rattle.format_fields.proofs.Truth.{not_both}
use Rattle.reduce_operators.proofs.Rewriting.{spare_other, spare_short, spare_long}
use Rattle.reduce_operators.proofs.canonical.spare_step.Goals as goal
use Rattle.reduce_operators.proofs.canonical.spare_step.Goals.{then-byte_at-eq-CLASS, else-byte_at-eq-CLASS}

pub returns-then-pair_at-eq-STEPPED_LENGTH : goal.returns-then-pair_at-eq-STEPPED_LENGTH
returns-then-pair_at-eq-STEPPED_LENGTH c =
    elim c.if-byte_at-eq-CLASS.branch [
      | then-byte_at-eq-CLASS w ↦ spare_long _ _ _ c.byte_at.ensures w.if-byte_at-eq-CLASS.true _ w.pair_at.ensures.0 (eqb-true _ _ (sym w.value-is ∙ c.if-pair_at-eq-STEPPED_LENGTH.true)) _ c.pair_at-then-pair_at-eq-STEPPED_LENGTH.ensures.0
      | else-byte_at-eq-CLASS w ↦ not_both c.if-pair_at-eq-STEPPED_LENGTH.true (w.value-is ∙ ne_eqb _ _ w.if-byte_at-eq-CLASS.false)
    ]

pub returns-else-pair_at-eq-STEPPED_LENGTH : goal.returns-else-pair_at-eq-STEPPED_LENGTH
returns-else-pair_at-eq-STEPPED_LENGTH c =
    elim c.if-byte_at-eq-CLASS.branch [
      | then-byte_at-eq-CLASS w ↦ c.if-pair_at-eq-STEPPED_LENGTH.false ∙ spare_short _ _ _ c.byte_at.ensures w.if-byte_at-eq-CLASS.true _ w.pair_at.ensures.0 (λ e. not_both (eq-eqb _ _ e) (sym w.value-is ∙ c.if-pair_at-eq-STEPPED_LENGTH.false))
      | else-byte_at-eq-CLASS w ↦ c.if-pair_at-eq-STEPPED_LENGTH.false ∙ spare_other _ _ _ c.byte_at.ensures w.if-byte_at-eq-CLASS.false
    ]
