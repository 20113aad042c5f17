use native.Mathlib.Omega.{arith}
use Rattle.check_wellformed.proofs.Marked.{entry_class, entry_arguments, entry_production}
use Rattle.format_language.proofs.Facts.{entry_kind}
use Rattle.format_translation.proofs.Whole.{entry_other, arguments_in}
use borrow.Author.Rules.{rules}
use Rattle.check_wellformed.proofs.kinds.mark_entry.Goals as goal

pub overflow_add-p : goal.overflow_add-p
overflow_add-p c = let k = entry_kind _ _ c.requires.0 in omega (arith, k.0)

pub bounds-s-p : goal.bounds-s-p
bounds-s-p c = let k = entry_kind _ _ c.requires.0 in omega (arith, k.0)

pub mark-requires : goal.mark-requires
mark-requires c = let k = entry_kind _ _ c.requires.0 in omega (arith, k.1, c.requires.2)

pub bounds-s-p-2 : goal.bounds-s-p-2
bounds-s-p-2 c = let k = entry_kind _ _ c.requires.0 in omega (arith, k.0)

pub returns-then-s-p-eq-CLASS : goal.returns-then-s-p-eq-CLASS
returns-then-s-p-eq-CLASS c = entry_class _ _ _ _ c.mark.ensures c.if-s-p-eq-CLASS.true

pub overflow_add-p-2 : goal.overflow_add-p-2
overflow_add-p-2 c = let k = entry_kind _ _ c.requires.0 in omega (arith, k.0)

pub slice_bounds-mark_part-start : goal.slice_bounds-mark_part-start
slice_bounds-mark_part-start c = let k = arguments_in _ _ _ (entry_other _ _ c.requires.0 c.if-s-p-eq-CLASS.false) c.requires.1 in omega (arith, k.2)

pub slice_bounds-mark_part-end : goal.slice_bounds-mark_part-end
slice_bounds-mark_part-end c = let k = arguments_in _ _ _ (entry_other _ _ c.requires.0 c.if-s-p-eq-CLASS.false) c.requires.1 in omega (arith, k.2, k.3)

pub mark_part-requires : goal.mark_part-requires
mark_part-requires c = (entry_arguments _ _ (entry_other _ _ c.requires.0 c.if-s-p-eq-CLASS.false) c.requires.1, search rules)

pub returns : goal.returns
returns c = entry_production _ _ _ _ c.mark.ensures c.if-s-p-eq-CLASS.false (entry_other _ _ c.requires.0 c.if-s-p-eq-CLASS.false) c.requires.1 c.mark_part.ensures

pub slice_bounds-mark_part-count : goal.slice_bounds-mark_part-count
slice_bounds-mark_part-count c = let k = arguments_in _ _ _ (entry_other _ _ c.requires.0 c.if-s-p-eq-CLASS.false) c.requires.1 in omega (arith, k.2)
