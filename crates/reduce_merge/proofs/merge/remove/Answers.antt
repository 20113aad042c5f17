use Rattle.reduce_merge.proofs.Walks.{whole_here, head_here, key_here, sought}
use Rattle.reduce_merge.proofs.Turns.{removing_full, removing_on, removing_done, field_inside}
use Rattle.reduce_merge.proofs.Prefixes.{shared_remove}
use Rattle.reduce_merge.proofs.merge.remove.Goals as goal

pub loop-p-init : goal.loop-p-init
loop-p-init c = shared_remove _ _ _ _ c.requires (c.shared-start.ensures _) _

pub order_at-requires : goal.order_at-requires
order_at-requires c = key_here _ _ c.loop-p.invariant.left.from c.loop-p-test.true

pub whole_end-e-requires : goal.whole_end-e-requires
whole_end-e-requires c = head_here _ _ c.loop-p.invariant.left.from c.loop-p-test.true

pub stands_at-stands-requires : goal.stands_at-stands-requires
stands_at-stands-requires c = (whole_here _ _ c.loop-p.invariant.left.from c.loop-p-test.true, (sought _ _ _ _ _ c.loop-p.invariant.right.from c.skip_below-q.ensures).from)

pub put_if-requires : goal.put_if-requires
put_if-requires c = (field_inside _ _ _ c.loop-p.invariant.left c.loop-p-test.true _ c.whole_end-e.ensures.is, c.loop-p.invariant.room)

pub returns-in_err-n : goal.returns-in_err-n
returns-in_err-n c = rw c.from_residual.ensures (removing_full _ _ _ _ _ _ _ _ c.loop-p.invariant c.loop-p-test.true _ c.order_at.ensures.0 _ (sought _ _ _ _ _ c.loop-p.invariant.right.from c.skip_below-q.ensures) _ c.whole_end-e.ensures.is _ c.stands_at-stands.ensures _ _ c.put_if.ensures c.in_err-n.was)

pub loop-p-preserved : goal.loop-p-preserved
loop-p-preserved c = removing_on _ _ _ _ _ _ _ _ c.loop-p.invariant c.loop-p-test.true _ c.order_at.ensures.0 _ (sought _ _ _ _ _ c.loop-p.invariant.right.from c.skip_below-q.ensures) _ c.whole_end-e.ensures.is _ c.stands_at-stands.ensures _ _ c.put_if.ensures _ c.in_ok-n.was c.put_if.auto.out

pub returns : goal.returns
returns c = removing_done _ _ _ _ _ _ _ _ c.loop-p.invariant c.loop-p-test.false
