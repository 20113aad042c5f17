use native.Mathlib.Omega.{arith}
use borrow.Author.Rules.{rules}
use mathlib.Core.Path.{refl, sym, ◌∙◌}
use Rattle.run_measure.proofs.Counts.{code_done, code_next, code_below}
use Rattle.run_measure.proofs.count.count_code.Goals as goal

pub loop-p-init : goal.loop-p-init
loop-p-init c = (refl, refl, c.requires.4, refl)

pub count_sign-requires : goal.count_sign-requires
count_sign-requires c = let t = c.requires.0 in let l = c.requires.1 in (omega (arith, c.loop-p-test.true), c.requires.2, c.requires.3, λ j. let z = (c.loop-p.invariant.2 j).1 in omega arith)

pub overflow_add-p : goal.overflow_add-p
overflow_add-p c = omega (arith, c.step-p.ensures.2, c.loop-p-test.true, c.requires.0, c.requires.1)

pub loop-p-smaller : goal.loop-p-smaller
loop-p-smaller c = omega (arith, c.step-p.ensures.1, c.loop-p-test.true)

pub loop-p-preserved : goal.loop-p-preserved
loop-p-preserved c = (search rules, search rules, code_below _ _ _ _ _ _ c.byte_at.ensures c.step-p.ensures.0 c.count_sign.ensures c.loop-p-test.true c.loop-p.invariant.2, code_next _ _ _ _ _ _ c.byte_at.ensures c.step-p.ensures.0 c.count_sign.ensures c.loop-p-test.true ∙ c.loop-p.invariant.3)

pub shape_of-counts : goal.shape_of-counts
shape_of-counts c = c.loop-p.invariant.0

pub shape_of-entries : goal.shape_of-entries
shape_of-entries c = c.loop-p.invariant.1

pub returns : goal.returns
returns c = record { is = sym (code_done _ _ _ _ _ _ c.loop-p-test.false) ∙ c.loop-p.invariant.3; low = λ j. (c.loop-p.invariant.2 j).1 }
