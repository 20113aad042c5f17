use mathlib.Core.Path.{sym, ◌∙◌}
use Rattle.run_table.proofs.Clauses.{field_spanned}
use Rattle.run_table.proofs.prepare.span_field.Goals as goal

pub returns : goal.returns
returns c = (c.span_code.ensures.1, field_spanned _ _ _ _ _ _ _ _ _ (sym c.is_clause.ensures ∙ c.if-not-is_clause.false) c.byte_at.ensures c.clause_number.ensures c.mapped_by-kind.ensures _ c.code_start.ensures.0 _ _ c.span_code.ensures.2)
