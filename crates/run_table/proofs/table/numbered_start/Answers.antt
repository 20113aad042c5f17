use Rattle.run_table.proofs.Finding.{numbered_asks, hint_hit}
use Rattle.run_table.proofs.table.numbered_start.Goals as goal

pub returns-in-Some : goal.returns-in-Some
returns-in-Some c = hint_hit _ _ _ _ _ c.in-Some.ensures.0 c.in-Some.ensures.2 c.if-is_numbered.ensures

pub returns-in_default : goal.returns-in_default
returns-in_default c = numbered_asks _ _ _ _ _ c.walk_start.ensures
