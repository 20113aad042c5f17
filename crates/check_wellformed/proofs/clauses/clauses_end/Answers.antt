use native.Mathlib.Omega.{arith}
use Rattle.format_fields.proofs.Places.{every_here}
use Rattle.format_translation.proofs.Whole.{item_long}
use Rattle.check_wellformed.proofs.Matching.{clear_done, clear_past, clear_short, clear_other, clear_next, order_least}
use Rattle.check_wellformed.proofs.clauses.clauses_end.Goals as goal

pub order_at-order-requires : goal.order_at-order-requires
order_at-order-requires c = item_long _ _ (every_here _ _ _ c.loop-at.invariant.asked.mappings c.loop-at-test.true).0

pub returns-then-first-order : goal.returns-then-first-order
returns-then-first-order c = clear_past _ (λ i. omega (arith, c.type_inv.body i)) _ _ _ _ _ _ c.loop-at.invariant c.loop-at-test.true _ c.order_at-order.ensures.0 c.if-first-order.true

pub returns-then-body-to : goal.returns-then-body-to
returns-then-body-to c = clear_short _ (λ i. omega (arith, c.type_inv.body i)) _ _ _ _ _ _ c.loop-at.invariant c.loop-at-test.true _ c.order_at-order.ensures.0 c.if-first-order.false c.if-body-to.true

pub order_at-requires : goal.order_at-requires
order_at-requires c = item_long _ _ (every_here _ _ _ c.loop-at.invariant.asked.clauses c.if-body-to.false).0

pub overflow_sub-order : goal.overflow_sub-order
overflow_sub-order c = order_least _ (λ i. omega (arith, c.type_inv.body i)) _ _ _ _ _ _ c.loop-at.invariant c.loop-at-test.true _ c.order_at-order.ensures.0

pub returns-then-order_at-key : goal.returns-then-order_at-key
returns-then-order_at-key c = clear_other _ (λ i. omega (arith, c.type_inv.body i)) _ _ _ _ _ _ c.loop-at.invariant c.loop-at-test.true _ c.order_at-order.ensures.0 c.if-first-order.false c.if-body-to.false _ c.order_at.ensures.0 c.if-order_at-key.true

pub whole_end-at-requires : goal.whole_end-at-requires
whole_end-at-requires c = let k = item_long _ _ (every_here _ _ _ c.loop-at.invariant.asked.mappings c.loop-at-test.true).0 in omega (arith, k)

pub whole_end-to-requires : goal.whole_end-to-requires
whole_end-to-requires c = let k = item_long _ _ (every_here _ _ _ c.loop-at.invariant.asked.clauses c.if-body-to.false).0 in omega (arith, k)

pub loop-at-preserved : goal.loop-at-preserved
loop-at-preserved c = clear_next _ (λ i. omega (arith, c.type_inv.body i)) _ _ _ _ _ _ c.loop-at.invariant c.loop-at-test.true _ c.order_at-order.ensures.0 c.if-first-order.false c.if-body-to.false _ c.order_at.ensures.0 c.if-order_at-key.false _ _ c.whole_end-at.ensures.is c.whole_end-to.ensures.is

pub returns : goal.returns
returns c = clear_done _ (λ i. omega (arith, c.type_inv.body i)) _ _ _ _ _ _ c.loop-at.invariant c.loop-at-test.false
