use Rattle.search_levels.proofs.Kept.{noted_within, noted_past}
use Rattle.search_levels.proofs.memory.note.Goals as goal

pub returns-then-r-m : goal.returns-then-r-m
returns-then-r-m c = noted_within _ _ c.if-r-m.true

pub returns-else-r-m : goal.returns-else-r-m
returns-else-r-m c = noted_past _ _ c.if-r-m.false
