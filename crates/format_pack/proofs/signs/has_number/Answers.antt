use mathlib.Core.Path.{sym, ◌∙◌}
use Rattle.format_pack.proofs.Readings.{number_none, number_is}
use Rattle.format_pack.proofs.signs.has_number.Goals as goal

pub returns-then-is_some : goal.returns-then-is_some
returns-then-is_some c = number_is _ c.sign_index.ensures (sym c.is_some.ensures ∙ c.if-is_some.true)

pub returns-else-is_some : goal.returns-else-is_some
returns-else-is_some c = c.if-is_some.false ∙ number_none _ c.sign_index.ensures (sym c.is_some.ensures ∙ c.if-is_some.false)
