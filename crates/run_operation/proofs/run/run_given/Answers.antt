use mathlib.Core.Path.{sym, ◌∙◌}
use Rattle.run_operation.proofs.Laws.{kind_out}
use Rattle.run_operation.proofs.run.run_given.Goals as goal

pub returns-then-not-has_number : goal.returns-then-not-has_number
returns-then-not-has_number c = λ t f z m. kind_out _ f _ (sym (c.has_number.ensures f m) ∙ c.if-not-has_number.true)

pub returns-then-given-lt-LONG_TREE : goal.returns-then-given-lt-LONG_TREE
returns-then-given-lt-LONG_TREE c = λ t f z m. c.run_over.ensures t f z (sym (c.has_number.ensures f m) ∙ c.if-not-has_number.false)

pub returns : goal.returns
returns c = λ t f z m. c.run_over-2.ensures t f z (sym (c.has_number.ensures f m) ∙ c.if-not-has_number.false)
