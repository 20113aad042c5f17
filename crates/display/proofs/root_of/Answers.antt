use Rattle.std.proofs.Common.{◌∙◌}
use Rattle.display.proofs.Showing.{root_one, root_other}
use Rattle.display.proofs.root_of.Goals as goal

pub returns-then-root-eq1 : goal.returns-then-root-eq1
returns-then-root-eq1 c = c.from.ensures ∙ root_one _ c.if-root-eq1.true

pub returns-else-root-eq1 : goal.returns-else-root-eq1
returns-else-root-eq1 c = root_other _ c.if-root-eq1.false
