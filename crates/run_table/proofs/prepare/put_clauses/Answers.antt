use mathlib.Core.Path.{◌∙◌}
use native.Mathlib.Omega.{arith}
use Rattle.run_table.proofs.Itemed.{putting_next, putting_ends}
use Rattle.run_table.proofs.prepare.put_clauses.Goals as goal

pub loop-p-preserved : goal.loop-p-preserved
loop-p-preserved c = putting_next _ _ _ _ _ _ (λ i. omega (arith, c.type_inv.body i)) (c.loop-p.invariant.around.long ∙ c.requires.1) c.loop-p-test.true c.field_end-p.ensures.is c.put_clause.ensures c.loop-p.invariant

pub returns : goal.returns
returns c = putting_ends _ _ _ _ c.loop-p-test.false c.loop-p.invariant
