use mathlib.Core.Path.{sym, ◌∙◌}
use Rattle.reduce_merge.proofs.Walks.{whole_here, met_there, met_stands, no_stand}
use Rattle.reduce_merge.proofs.meet.stands_at.Goals as goal

pub same_field-requires : goal.same_field-requires
same_field-requires c = (c.requires.0, whole_here _ _ c.requires.1 (met_there _ _ _ _ _ (sym c.if-meets.true ∙ c.meets.ensures)))

pub returns-then-meets : goal.returns-then-meets
returns-then-meets c = c.same_field.ensures ∙ met_stands _ _ _ _ _ (sym c.if-meets.true ∙ c.meets.ensures)

pub returns-else-meets : goal.returns-else-meets
returns-else-meets c = c.if-meets.false ∙ no_stand _ _ _ _ _ (sym c.if-meets.false ∙ c.meets.ensures)
