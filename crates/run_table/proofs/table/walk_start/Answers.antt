use mathlib.Core.Path.{sym, ◌∙◌}
use Rattle.run_table.proofs.Finding.{finding_starts, finding_hit, finding_next, finding_ends}
use Rattle.run_table.proofs.table.walk_start.Goals as goal

pub loop-p-init : goal.loop-p-init
loop-p-init c = finding_starts _ _ _ _ c.requires

pub returns-then-is_numbered : goal.returns-then-is_numbered
returns-then-is_numbered c = finding_hit _ _ _ _ _ c.loop-p.invariant (sym c.if-is_numbered.true ∙ c.is_numbered.ensures)

pub loop-p-preserved : goal.loop-p-preserved
loop-p-preserved c = finding_next _ _ _ _ _ c.loop-p.invariant (sym c.if-is_numbered.false ∙ c.is_numbered.ensures) _ c.end_of_field-p.ensures.0

pub returns : goal.returns
returns c = finding_ends _ _ _ _ _ c.loop-p.invariant c.loop-p-test.false
