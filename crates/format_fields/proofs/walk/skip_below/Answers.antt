use native.Mathlib.Omega.{arith}
use Rattle.format_fields.proofs.Places.{every_here, long_here}
use Rattle.format_fields.proofs.Skips.{skip_start, skip_next, skip_stop}
use Rattle.format_fields.proofs.walk.skip_below.Goals as goal

pub loop-q-init : goal.loop-q-init
loop-q-init c = skip_start _ _ _ _ c.requires

pub order_at-requires : goal.order_at-requires
order_at-requires c = long_here _ _ (every_here _ _ _ c.loop-q.invariant.long c.loop-q-test.true).0

pub returns-then-least-order_at : goal.returns-then-least-order_at
returns-then-least-order_at c = skip_stop _ _ _ _ _ c.loop-q.invariant (λ h. omega (arith, c.order_at.ensures.0, c.if-least-order_at.true))

pub whole_end-q-requires : goal.whole_end-q-requires
whole_end-q-requires c = let k = long_here _ _ (every_here _ _ _ c.loop-q.invariant.long c.loop-q-test.true).0 in omega (arith, k)

pub loop-q-preserved : goal.loop-q-preserved
loop-q-preserved c = skip_next _ _ _ _ _ c.loop-q.invariant c.loop-q-test.true _ c.order_at.ensures.0 c.if-least-order_at.false _ c.whole_end-q.ensures.is

pub returns : goal.returns
returns c = skip_stop _ _ _ _ _ c.loop-q.invariant (λ h. absurd (omega (arith, h, c.loop-q-test.false)))
