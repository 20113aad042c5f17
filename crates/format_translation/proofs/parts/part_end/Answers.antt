use Rattle.std.proofs.Common.{◌≡◌}
use native.Mathlib.Omega.{arith}
use mathlib.Core.Path.{refl, ◌∙◌}
use Rattle.format_translation.proofs.Found.{part_cut, part_other, part_whole_lem}
use Rattle.format_translation.proofs.parts.part_end.Goals as goal

pub returns-in_err-e-clause-none : goal.returns-in_err-e-clause-none
returns-in_err-e-clause-none c = λ r. part_cut _ _ _ (c.end_if_whole.ensures.cut c.in_err-e.was)

pub returns-then-s-p-clause-none : goal.returns-then-s-p-clause-none
returns-then-s-p-clause-none c = λ r. part_other _ _ _ _ refl c.if-s-p.true

pub returns-clause-some : goal.returns-clause-some
returns-clause-some c = λ e r. let w = c.end_if_whole.ensures.whole _ c.in_ok-e.was in let d : c.in_ok-e.e ≡ e = cc in
    (part_whole_lem _ _ _ _ refl c.if-s-p.false _ (c.end_if_whole.ensures.whole _ (c.in_ok-e.was ∙ r)), omega (arith, d, w.past), omega (arith, d, w.fits))
