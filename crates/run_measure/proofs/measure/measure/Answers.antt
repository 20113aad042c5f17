use mathlib.Core.Path.{◌≡◌, refl}
use native.Mathlib.Omega.{arith}
use Rattle.std.proofs.Common.{rules, Err}
use Rattle.run_measure.proofs.Meaning.{down_err, down_rows, same_as}
use Rattle.run_measure.proofs.measure.measure.Goals as goal

pub returns-in_err-row-clause-is : goal.returns-in_err-row-clause-is
returns-in_err-row-clause-is g c =
    let why : c.from_residual.result ≡ Err c.in_err-row.field-0.0 = search rules in
    λ f u z w maps. rw why (same_as _ _ _ _ c.args.tree.now f z w (λ i. omega (arith, c.type_inv.tree i)) _ _ _ _ _ _ c.requires.2 c.requires.6 c.requires.7 u maps c.begin-total.ensures.is
    (down_err _ _ _ _ _ _ _ _ _ _ c.requires.4 _ c.step_at.ensures.is c.in_err-row.was))

pub returns-clause-is : goal.returns-clause-is
returns-clause-is g c =
    λ f u z w maps. same_as _ _ _ _ c.args.tree.now f z w (λ i. omega (arith, c.type_inv.tree i)) _ _ _ _ _ _ c.requires.2 c.requires.6 c.requires.7 u maps c.begin-total.ensures.is
    (down_rows _ _ _ _ _ _ _ _ _ _ c.requires.4 _ c.step_at.ensures.is c.in_ok-row.was _ refl c.measure_rows.ensures.is.0)
