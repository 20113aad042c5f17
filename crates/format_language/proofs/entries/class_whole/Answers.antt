use mathlib.Core.Path.{refl, sym, ◌∙◌}
use native.Mathlib.Omega.{arith}
use Rattle.format_language.proofs.Returns.{class_step, class_kind, class_range_lem}
use Rattle.format_language.proofs.entries.class_whole.Goals as goal

pub returns-then-not-step_whole : goal.returns-then-not-step_whole
returns-then-not-step_whole c = class_step _ _ _ _ c.requires.1 refl (sym c.step_whole.ensures.0 ∙ c.if-not-step_whole.true)

pub bounds-s-p : goal.bounds-s-p
bounds-s-p c = omega (arith, c.step_whole.ensures.1 (c.if-not-step_whole.false))

pub returns-then-s-p-ge-KINDS : goal.returns-then-s-p-ge-KINDS
returns-then-s-p-ge-KINDS c = class_kind _ _ _ _ c.requires.1 refl (sym c.step_whole.ensures.0 ∙ c.if-not-step_whole.false) c.if-s-p-ge-KINDS.true

pub pair_in-requires : goal.pair_in-requires
pair_in-requires c = omega (arith, c.step_whole.ensures.1 (c.if-not-step_whole.false))

pub pair_in-requires-2 : goal.pair_in-requires-2
pair_in-requires-2 c = omega (arith, c.step_whole.ensures.1 (c.if-not-step_whole.false))

pub returns : goal.returns
returns c = class_range_lem _ _ _ _ c.requires.1 refl (sym c.step_whole.ensures.0 ∙ c.if-not-step_whole.false) c.if-s-p-ge-KINDS.false _ _ c.pair_in.ensures.0 c.pair_in-2.ensures.0
