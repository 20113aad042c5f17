use native.Mathlib.Omega.{arith}
use Rattle.format_language.proofs.Ranges.{class_long, value_below, value_above, value_single, value_steps}
use Rattle.format_language.proofs.range.in_range.Goals as goal

pub overflow_add-p : goal.overflow_add-p
overflow_add-p c = omega (arith, class_long _ _ c.requires)

pub pair_in-low-requires : goal.pair_in-low-requires
pair_in-low-requires c = omega (arith, class_long _ _ c.requires)

pub returns-then-value-low : goal.returns-then-value-low
returns-then-value-low c = value_below _ _ _ _ c.pair_in-low.ensures.0 c.if-value-low.true

pub overflow_add-p-2 : goal.overflow_add-p-2
overflow_add-p-2 c = omega (arith, class_long _ _ c.requires)

pub pair_in-requires : goal.pair_in-requires
pair_in-requires c = omega (arith, class_long _ _ c.requires)

pub returns-then-pair_in-value : goal.returns-then-pair_in-value
returns-then-pair_in-value c = value_above _ _ _ _ c.pair_in-low.ensures.0 c.if-value-low.false _ c.pair_in.ensures.0 c.if-pair_in-value.true

pub returns-then-step-eq1 : goal.returns-then-step-eq1
returns-then-step-eq1 c = value_single _ _ _ _ c.pair_in-low.ensures.0 c.if-value-low.false _ c.pair_in.ensures.0 c.if-pair_in-value.false _ c.step_at-step.ensures.0 c.if-step-eq1.true

pub returns : goal.returns
returns c = value_steps _ _ _ _ c.pair_in-low.ensures.0 c.if-value-low.false _ c.pair_in.ensures.0 c.if-pair_in-value.false _ c.step_at-step.ensures.0
