use mathlib.Core.Path.{refl}
use native.Mathlib.Omega.{arith}
use Rattle.format_translation.proofs.Found.{not_zero, whole_source, whole_target, whole_first, whole_second, whole_body, cuts}
use Rattle.format_translation.proofs.parts.parts_whole.Goals as goal

pub returns-in_default : goal.returns-in_default
returns-in_default c = whole_source _ _ (c.part_end.ensures.none c.in_default.is) refl

pub returns-in_default-part_end : goal.returns-in_default-part_end
returns-in_default-part_end c = whole_target _ _ (c.part_end.ensures.some _ c.in-Some.is).0 (not_zero (c.part_end.ensures.some _ c.in-Some.is).1) _ (c.part_end-2.ensures.none c.in_default-part_end.is) refl

pub slice_bounds-entries_whole-count : goal.slice_bounds-entries_whole-count
slice_bounds-entries_whole-count c = let k = cuts _ _ (c.part_end.ensures.some _ c.in-Some.is).0 (not_zero (c.part_end.ensures.some _ c.in-Some.is).1) _ (c.part_end-2.ensures.some _ c.in-Some-part_end.is).0 (not_zero (c.part_end-2.ensures.some _ c.in-Some-part_end.is).1) in omega (arith, k.0, k.1, k.2, k.3)

pub slice_bounds-entries_whole-start : goal.slice_bounds-entries_whole-start
slice_bounds-entries_whole-start c = let k = cuts _ _ (c.part_end.ensures.some _ c.in-Some.is).0 (not_zero (c.part_end.ensures.some _ c.in-Some.is).1) _ (c.part_end-2.ensures.some _ c.in-Some-part_end.is).0 (not_zero (c.part_end-2.ensures.some _ c.in-Some-part_end.is).1) in omega (arith, k.0, k.1, k.2, k.3)

pub returns-then-not-entries_whole : goal.returns-then-not-entries_whole
returns-then-not-entries_whole c = whole_first _ _ (c.part_end.ensures.some _ c.in-Some.is).0 (not_zero (c.part_end.ensures.some _ c.in-Some.is).1) _ (c.part_end-2.ensures.some _ c.in-Some-part_end.is).0 (not_zero (c.part_end-2.ensures.some _ c.in-Some-part_end.is).1) _ c.entries_whole.ensures (c.if-not-entries_whole.true)

pub slice_bounds-entries_whole-count-2 : goal.slice_bounds-entries_whole-count-2
slice_bounds-entries_whole-count-2 c = let k = cuts _ _ (c.part_end.ensures.some _ c.in-Some.is).0 (not_zero (c.part_end.ensures.some _ c.in-Some.is).1) _ (c.part_end-2.ensures.some _ c.in-Some-part_end.is).0 (not_zero (c.part_end-2.ensures.some _ c.in-Some-part_end.is).1) in omega (arith, k.0, k.1, k.2, k.3)

pub slice_bounds-entries_whole-start-2 : goal.slice_bounds-entries_whole-start-2
slice_bounds-entries_whole-start-2 c = let k = cuts _ _ (c.part_end.ensures.some _ c.in-Some.is).0 (not_zero (c.part_end.ensures.some _ c.in-Some.is).1) _ (c.part_end-2.ensures.some _ c.in-Some-part_end.is).0 (not_zero (c.part_end-2.ensures.some _ c.in-Some-part_end.is).1) in omega (arith, k.0, k.1, k.2, k.3)

pub returns-then-not-entries_whole-2 : goal.returns-then-not-entries_whole-2
returns-then-not-entries_whole-2 c = whole_second _ _ (c.part_end.ensures.some _ c.in-Some.is).0 (not_zero (c.part_end.ensures.some _ c.in-Some.is).1) _ (c.part_end-2.ensures.some _ c.in-Some-part_end.is).0 (not_zero (c.part_end-2.ensures.some _ c.in-Some-part_end.is).1) _ c.entries_whole.ensures (c.if-not-entries_whole.false) _ c.entries_whole-2.ensures (c.if-not-entries_whole-2.true)

pub returns : goal.returns
returns c = whole_body _ _ (c.part_end.ensures.some _ c.in-Some.is).0 (not_zero (c.part_end.ensures.some _ c.in-Some.is).1) _ (c.part_end-2.ensures.some _ c.in-Some-part_end.is).0 (not_zero (c.part_end-2.ensures.some _ c.in-Some-part_end.is).1) _ c.entries_whole.ensures (c.if-not-entries_whole.false) _ c.entries_whole-2.ensures (c.if-not-entries_whole-2.false) _ c.body_whole.ensures
