use native.Mathlib.Omega.{arith}
use mathlib.Core.Path.{refl}
use Rattle.format_fields.specs.Keyed.{rising}
use Rattle.format_fields.proofs.Keys.{keys_done, keys_stop, keys_next}
use Rattle.format_fields.proofs.Places.{every_here, every_after, long_here}
use Rattle.format_fields.proofs.walk.keys_rise.Goals as goal

pub loop-p-init : goal.loop-p-init
unfolding rising
loop-p-init c = (c.requires, refl)

pub order_at-key-requires : goal.order_at-key-requires
order_at-key-requires c = let k = long_here _ _ (every_here _ _ _ c.loop-p.invariant.0 c.loop-p-test.true).0 in omega (arith, k)

pub returns-then-key-least : goal.returns-then-key-least
returns-then-key-least c = keys_stop _ _ _ _ _ c.loop-p.invariant.1 _ c.loop-p-test.true c.order_at-key.ensures.0 c.if-key-least.true

pub whole_end-p-requires : goal.whole_end-p-requires
whole_end-p-requires c = let k = long_here _ _ (every_here _ _ _ c.loop-p.invariant.0 c.loop-p-test.true).0 in omega (arith, k)

pub loop-p-preserved : goal.loop-p-preserved
loop-p-preserved c = (every_after _ _ _ _ c.whole_end-p.ensures.is c.loop-p.invariant.0 c.loop-p-test.true, keys_next _ _ _ _ _ c.loop-p.invariant.1 _ _ c.loop-p-test.true c.order_at-key.ensures.0 c.whole_end-p.ensures.is c.if-key-least.false)

pub returns : goal.returns
returns c = keys_done _ _ _ _ _ c.loop-p.invariant.1 c.loop-p-test.false
