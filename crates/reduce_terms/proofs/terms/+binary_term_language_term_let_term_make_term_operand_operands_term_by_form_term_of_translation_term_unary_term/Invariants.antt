use Prim.Native.Nat.{◌+◌, ◌*◌}
use Rattle.reduce_terms.proofs.terms.+binary_term_language_term_let_term_make_term_operand_operands_term_by_form_term_of_translation_term_unary_term.Given as goal

abbrev pub decreases-binary_term : goal.decreases-binary_term
decreases-binary_term l = 6 * l.levels + 1

abbrev pub decreases-language_term : goal.decreases-language_term
decreases-language_term l = 6 * l.levels + 3

abbrev pub decreases-let_term : goal.decreases-let_term
decreases-let_term l = 6 * l.levels + 1

abbrev pub decreases-make_term : goal.decreases-make_term
decreases-make_term l = 6 * l.levels + 1

abbrev pub decreases-operand : goal.decreases-operand
decreases-operand l = 6 * l.levels + 5

abbrev pub decreases-operands : goal.decreases-operands
decreases-operands l = 6 * l.levels

abbrev pub decreases-term_by_form : goal.decreases-term_by_form
decreases-term_by_form l = 6 * l.levels + 2

abbrev pub decreases-term_of : goal.decreases-term_of
decreases-term_of l = 6 * l.levels + 4

abbrev pub decreases-translation_term : goal.decreases-translation_term
decreases-translation_term l = 6 * l.levels + 3

abbrev pub decreases-unary_term : goal.decreases-unary_term
decreases-unary_term l = 6 * l.levels + 1
