use Rattle.format_fields.proofs.Places.{whole_end, head_there, every_here, every_after, every_stop, every_next, every_done}
use Rattle.format_pack.proofs.Passes.{part_whole_lem}
use Rattle.format_pack.proofs.order.in_order.Goals as goal

pub whole_end-e-requires : goal.whole_end-e-requires
whole_end-e-requires c = head_there _ _ (part_whole_lem _ _ (every_here _ _ _ c.loop-p.invariant.0 c.loop-p-test.true).0)

pub rises_at-requires : goal.rises_at-requires
rises_at-requires c = let w = (every_here _ _ _ c.loop-p.invariant.0 c.loop-p-test.true).0 in (whole_end _ _ (part_whole_lem _ _ w) _ c.whole_end-e.ensures.is, w)

pub returns-then-not-rises_at : goal.returns-then-not-rises_at
returns-then-not-rises_at c = every_stop _ _ _ _ c.loop-p.invariant.1 _ c.rises_at.ensures _ c.whole_end-e.ensures.is c.loop-p-test.true (c.if-not-rises_at.true)

pub loop-p-preserved : goal.loop-p-preserved
loop-p-preserved c = (every_after _ _ _ _ c.whole_end-e.ensures.is c.loop-p.invariant.0 c.loop-p-test.true, every_next _ _ _ _ c.loop-p.invariant.1 _ c.rises_at.ensures _ c.whole_end-e.ensures.is c.loop-p-test.true (c.if-not-rises_at.false))

pub returns : goal.returns
returns c = every_done _ _ _ _ c.loop-p.invariant.1 c.loop-p-test.false
