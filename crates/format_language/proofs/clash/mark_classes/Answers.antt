use borrow.Author.Rules.{rules}
use native.Mathlib.Omega.{arith}
use mathlib.Core.Path.{refl}
use Rattle.format_fields.proofs.Places.{every_here, every_after}
use Rattle.format_language.proofs.Facts.{entry_kind}
use Rattle.format_language.proofs.Classes.{rises_start, rises_next, classed_done, classed_here, classes_next, results_next}
use Rattle.format_language.proofs.clash.mark_classes.Goals as goal

pub loop-p-init : goal.loop-p-init
loop-p-init c = (c.requires.1, c.requires.0.whole, rises_start _ c.requires.0.rises, refl, λ t. refl)

pub returns-then-s-p-ne-CLASS : goal.returns-then-s-p-ne-CLASS
returns-then-s-p-ne-CLASS c = classed_here _ _ c.loop-p.kinds _ c.loop-p.invariant.3 c.loop-p.invariant.4 c.loop-p.invariant.1 c.loop-p-test.true c.if-s-p-ne-CLASS.true c.loop-p.invariant.2

pub overflow_add-p : goal.overflow_add-p
overflow_add-p c = let k = entry_kind _ _ (every_here _ _ _ c.loop-p.invariant.1 c.loop-p-test.true).0 in omega (arith, k.0)

pub bounds-s-p-in-loop-p : goal.bounds-s-p-in-loop-p
bounds-s-p-in-loop-p c = let k = entry_kind _ _ (every_here _ _ _ c.loop-p.invariant.1 c.loop-p-test.true).0 in omega (arith, k.0)

pub bounds-kinds-from : goal.bounds-kinds-from
bounds-kinds-from c = let k = entry_kind _ _ (every_here _ _ _ c.loop-p.invariant.1 c.loop-p-test.true).0 in omega (arith, k.1, c.from.ensures, c.loop-p.invariant.0)

pub whole_end-p-requires : goal.whole_end-p-requires
whole_end-p-requires c = let k = entry_kind _ _ (every_here _ _ _ c.loop-p.invariant.1 c.loop-p-test.true).0 in omega (arith, k.0)

pub loop-p-preserved : goal.loop-p-preserved
loop-p-preserved c = (search rules, every_after _ _ _ _ c.whole_end-p.ensures.is c.loop-p.invariant.1 c.loop-p-test.true, rises_next _ _ c.loop-p.invariant.2 c.loop-p-test.true _ c.whole_end-p.ensures.is, classes_next _ _ c.loop-p.kinds _ c.loop-p.invariant.3 c.loop-p.invariant.4 c.loop-p.invariant.1 c.loop-p-test.true c.if-s-p-ne-CLASS.false _ c.whole_end-p.ensures.is _ c.from.ensures, results_next _ _ c.loop-p.kinds _ c.loop-p.invariant.3 c.loop-p.invariant.4 c.loop-p.invariant.1 c.loop-p-test.true c.if-s-p-ne-CLASS.false _ c.whole_end-p.ensures.is)

pub returns : goal.returns
returns c = classed_done _ _ c.loop-p.kinds _ c.loop-p.invariant.3 c.loop-p.invariant.4 c.loop-p.invariant.1 c.loop-p-test.false
