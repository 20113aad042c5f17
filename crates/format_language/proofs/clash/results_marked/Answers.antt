use native.Mathlib.Omega.{arith}
use mathlib.Core.Path.{refl}
use Rattle.format_fields.proofs.Places.{every_here, every_after, some_done, some_stop, some_next}
use Rattle.format_language.proofs.Facts.{entry_kind}
use Rattle.format_language.proofs.Classes.{result_is_lem}
use Rattle.format_language.proofs.clash.results_marked.Goals as goal

pub loop-p-init : goal.loop-p-init
loop-p-init c = (c.requires.0, c.requires.1, refl)

pub overflow_add-p : goal.overflow_add-p
overflow_add-p c = let k = entry_kind _ _ (every_here _ _ _ c.loop-p.invariant.0 c.loop-p-test.true).0 in omega (arith, k.0)

pub bounds-s-p : goal.bounds-s-p
bounds-s-p c = let k = entry_kind _ _ (every_here _ _ _ c.loop-p.invariant.0 c.loop-p-test.true).0 in omega (arith, k.0)

pub bounds-kinds-from : goal.bounds-kinds-from
bounds-kinds-from c = let k = entry_kind _ _ (every_here _ _ _ c.loop-p.invariant.0 c.loop-p-test.true).0 in omega (arith, k.1, c.from.ensures, c.requires.2)

pub returns-then-kinds-from : goal.returns-then-kinds-from
returns-then-kinds-from c = some_stop _ _ _ _ c.loop-p.invariant.2 _ (result_is_lem _ _ _ _ (every_here _ _ _ c.loop-p.invariant.1 c.loop-p-test.true).0 c.from.ensures) _ refl c.loop-p-test.true c.if-kinds-from.true

pub whole_end-p-requires : goal.whole_end-p-requires
whole_end-p-requires c = let k = entry_kind _ _ (every_here _ _ _ c.loop-p.invariant.0 c.loop-p-test.true).0 in omega (arith, k.0)

pub loop-p-preserved : goal.loop-p-preserved
loop-p-preserved c = (every_after _ _ _ _ c.whole_end-p.ensures.is c.loop-p.invariant.0 c.loop-p-test.true, every_after _ _ _ _ c.whole_end-p.ensures.is c.loop-p.invariant.1 c.loop-p-test.true, some_next _ _ _ _ c.loop-p.invariant.2 _ (result_is_lem _ _ _ _ (every_here _ _ _ c.loop-p.invariant.1 c.loop-p-test.true).0 c.from.ensures) _ c.whole_end-p.ensures.is c.loop-p-test.true c.if-kinds-from.false)

pub returns : goal.returns
returns c = some_done _ _ _ _ c.loop-p.invariant.2 c.loop-p-test.false
