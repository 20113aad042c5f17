use native.Mathlib.Omega.{arith}
use mathlib.Core.Path.{refl}
use Rattle.format_language.proofs.Ranges.{class_long, step_one, step_in, step_read}
use Rattle.format_language.proofs.range.step_at.Goals as goal

pub overflow_add-p : goal.overflow_add-p
overflow_add-p c = omega (arith, class_long _ _ c.requires)

pub bounds-s-p : goal.bounds-s-p
bounds-s-p c = omega (arith, class_long _ _ c.requires)

pub returns-then-s-p-ne-STEPPED : goal.returns-then-s-p-ne-STEPPED
returns-then-s-p-ne-STEPPED c = step_one _ _ c.requires _ refl c.if-s-p-ne-STEPPED.true

pub overflow_add-p-2 : goal.overflow_add-p-2
overflow_add-p-2 c = omega (arith, class_long _ _ c.requires)

pub pair_in-requires : goal.pair_in-requires
pair_in-requires c = step_in _ _ c.requires _ refl c.if-s-p-ne-STEPPED.false

pub returns : goal.returns
returns c = step_read _ _ c.requires _ refl c.if-s-p-ne-STEPPED.false _ c.pair_in.ensures.0
