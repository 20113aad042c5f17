use native.Mathlib.Omega.{arith}
use Rattle.run_measure.proofs.Prepared.{body_fields, prepared}
use Rattle.run_measure.proofs.prepare.prepare.Goals as goal

pub count_all-requires : goal.count_all-requires
count_all-requires c = (body_fields _ _ c.requires.9.2, c.requires.1, c.requires.5)

pub returns : goal.returns
returns c = prepared _ _ _ _ _ _ (λ i. omega (arith, c.type_inv.source i)) (λ i. omega (arith, c.type_inv.body i)) c.requires.0 c.requires.1 c.requires.2 c.requires.3 c.requires.4 c.requires.5 c.requires.6 c.requires.7 c.requires.8 c.count_all.ensures
