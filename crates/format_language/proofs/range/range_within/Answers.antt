use mathlib.Core.Path.{sym, ◌∙◌}
use native.Mathlib.Omega.{arith}
use Rattle.format_language.proofs.Ranges.{class_long, low_out, span_single, step_out, rest_small, last_in}
use Rattle.format_language.proofs.range.range_within.Goals as goal

pub overflow_add-p : goal.overflow_add-p
overflow_add-p c = omega (arith, class_long _ _ c.requires.0)

pub pair_in-low-requires : goal.pair_in-low-requires
pair_in-low-requires c = omega (arith, class_long _ _ c.requires.0)

pub returns-then-not-in_range : goal.returns-then-not-in_range
returns-then-not-in_range c = low_out _ _ _ _ c.requires.0 _ c.pair_in-low.ensures.0 (sym c.in_range.ensures ∙ c.if-not-in_range.true)

pub overflow_add-p-2 : goal.overflow_add-p-2
overflow_add-p-2 c = omega (arith, class_long _ _ c.requires.0)

pub pair_in-requires : goal.pair_in-requires
pair_in-requires c = omega (arith, class_long _ _ c.requires.0)

pub returns-then-span-step : goal.returns-then-span-step
returns-then-span-step c = span_single _ _ _ _ c.requires.0 _ c.pair_in-low.ensures.0 (sym c.in_range.ensures ∙ c.if-not-in_range.false) _ c.pair_in.ensures.0 _ c.step_at-step.ensures.0 c.if-span-step.true

pub returns-then-step-step_at-ne0 : goal.returns-then-step-step_at-ne0
returns-then-step-step_at-ne0 c = step_out _ _ _ _ c.requires.0 _ c.pair_in-low.ensures.0 (sym c.in_range.ensures ∙ c.if-not-in_range.false) _ c.pair_in.ensures.0 _ c.step_at-step.ensures.0 c.if-span-step.false _ c.step_at.ensures.0 c.if-step-step_at-ne0.true

pub overflow_sub-result : goal.overflow_sub-result
overflow_sub-result c = rest_small _ _

pub overflow_add-q : goal.overflow_add-q
overflow_add-q c = omega (arith, class_long _ _ c.requires.1)

pub pair_in-requires-2 : goal.pair_in-requires-2
pair_in-requires-2 c = omega (arith, class_long _ _ c.requires.1)

pub returns : goal.returns
returns c = last_in _ _ _ _ c.requires.0 _ c.pair_in-low.ensures.0 (sym c.in_range.ensures ∙ c.if-not-in_range.false) _ c.pair_in.ensures.0 _ c.step_at-step.ensures.0 c.if-span-step.false _ c.step_at.ensures.0 c.if-step-step_at-ne0.false _ c.pair_in-2.ensures.0
