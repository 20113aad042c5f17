use Rattle.format_fields.proofs.Places.{whole_end, head_there, every_here, every_after, some_stop, some_next, some_done}
use Rattle.format_pack.proofs.Passes.{part_whole_lem}
use Rattle.format_pack.proofs.order.languages_clash.Goals as goal

pub whole_end-e-requires : goal.whole_end-e-requires
whole_end-e-requires c = head_there _ _ (part_whole_lem _ _ (every_here _ _ _ c.loop-p.invariant.0 c.loop-p-test.true).0)

pub clash_at-requires : goal.clash_at-requires
clash_at-requires c = let w = (every_here _ _ _ c.loop-p.invariant.0 c.loop-p-test.true).0 in (whole_end _ _ (part_whole_lem _ _ w) _ c.whole_end-e.ensures.is, w, (every_here _ _ _ c.loop-p.invariant.1 c.loop-p-test.true).0)

pub returns-then-clash_at : goal.returns-then-clash_at
returns-then-clash_at c = some_stop _ _ _ _ c.loop-p.invariant.2 _ c.clash_at.ensures _ c.whole_end-e.ensures.is c.loop-p-test.true c.if-clash_at.true

pub loop-p-preserved : goal.loop-p-preserved
loop-p-preserved c = (every_after _ _ _ _ c.whole_end-e.ensures.is c.loop-p.invariant.0 c.loop-p-test.true, every_after _ _ _ _ c.whole_end-e.ensures.is c.loop-p.invariant.1 c.loop-p-test.true, some_next _ _ _ _ c.loop-p.invariant.2 _ c.clash_at.ensures _ c.whole_end-e.ensures.is c.loop-p-test.true c.if-clash_at.false)

pub returns : goal.returns
returns c = some_done _ _ _ _ c.loop-p.invariant.2 c.loop-p-test.false
