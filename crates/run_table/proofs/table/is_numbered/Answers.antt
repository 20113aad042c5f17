use Rattle.std.proofs.lemmas.Grind.{common_steps}
use native.Mathlib.Omega.{arith}
use Rattle.run_table.specs.Inner.Table.{numbered_is}
use Rattle.run_table.proofs.table.is_numbered.Goals as goal

pub returns-then-body_at-name : goal.returns-then-body_at-name
unfolding numbered_is
returns-then-body_at-name c = grind (arith, common_steps)

pub returns-else-body_at-name : goal.returns-else-body_at-name
unfolding numbered_is
returns-else-body_at-name c = grind (arith, common_steps)
