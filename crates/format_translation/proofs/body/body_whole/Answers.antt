use native.Mathlib.Omega.{arith}
use mathlib.Core.Path.{refl}
use mathlib.Core.Bool.{false}
use Rattle.format_translation.proofs.Items.{body_there, item_cut, item_is, items_done, items_broken, items_late, items_clause, items_early}
use Rattle.format_translation.proofs.body.body_whole.Goals as goal

pub loop-p-init : goal.loop-p-init
loop-p-init c = body_there _

pub returns-in_default : goal.returns-in_default
returns-in_default c = items_broken _ _ _ _ c.loop-p.invariant c.loop-p-test.true _ refl false (item_cut _ _ (c.end_if_whole.ensures.cut c.in_default.is)) refl

pub item_good-requires : goal.item_good-requires
item_good-requires c = (c.end_if_whole.ensures.whole _ c.in-Some.is)

pub returns-then-not-item_good : goal.returns-then-not-item_good
returns-then-not-item_good c = items_broken _ _ _ _ c.loop-p.invariant c.loop-p-test.true _ refl _ (item_is _ _ _ (c.end_if_whole.ensures.whole _ c.in-Some.is) _ c.item_good.ensures) (c.if-not-item_good.true)

pub returns-then-not-clause : goal.returns-then-not-clause
returns-then-not-clause c = items_late _ _ _ _ c.loop-p.invariant c.loop-p-test.true _ refl _ (item_is _ _ _ (c.end_if_whole.ensures.whole _ c.in-Some.is) _ c.item_good.ensures) (c.if-not-item_good.false) _ c.is_clause-clause.ensures c.if-past.true (c.if-not-clause.true)

pub loop-p-smaller-else-not-clause : goal.loop-p-smaller-else-not-clause
loop-p-smaller-else-not-clause c = let w = (c.end_if_whole.ensures.whole _ c.in-Some.is) in omega (arith, w.past)

pub loop-p-preserved-else-not-clause : goal.loop-p-preserved-else-not-clause
loop-p-preserved-else-not-clause c = items_clause _ _ _ _ c.loop-p.invariant c.loop-p-test.true _ (c.end_if_whole.ensures.whole _ c.in-Some.is).is _ (item_is _ _ _ (c.end_if_whole.ensures.whole _ c.in-Some.is) _ c.item_good.ensures) (c.if-not-item_good.false) _ c.is_clause-clause.ensures (c.if-not-clause.false)

pub loop-p-smaller : goal.loop-p-smaller
loop-p-smaller c = let w = (c.end_if_whole.ensures.whole _ c.in-Some.is) in omega (arith, w.past)

pub loop-p-preserved : goal.loop-p-preserved
loop-p-preserved c = items_early _ _ _ _ c.loop-p.invariant c.loop-p-test.true _ (c.end_if_whole.ensures.whole _ c.in-Some.is).is _ (item_is _ _ _ (c.end_if_whole.ensures.whole _ c.in-Some.is) _ c.item_good.ensures) (c.if-not-item_good.false) _ c.is_clause-clause.ensures c.if-past.false

pub returns : goal.returns
returns c = items_done _ _ _ _ c.loop-p.invariant c.loop-p-test.false
