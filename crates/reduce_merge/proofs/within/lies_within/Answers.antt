use Rattle.reduce_merge.proofs.Walks.{head_here, key_here, sought}
use Rattle.reduce_merge.proofs.Prefixes.{shared_within}
use Rattle.reduce_merge.proofs.Containing.{containing_end, containing_meets, containing_stop, containing_on}
use Rattle.reduce_merge.proofs.within.lies_within.Goals as goal

pub loop-p-init : goal.loop-p-init
loop-p-init c = shared_within _ _ _ c.requires (c.shared-start.ensures _)

pub order_at-requires : goal.order_at-requires
order_at-requires c = key_here _ _ c.loop-p.invariant.left.from c.loop-p-test.true

pub lies_at-requires : goal.lies_at-requires
lies_at-requires c = containing_meets _ _ _ _ c.loop-p.invariant c.loop-p-test.true _ c.order_at.ensures.0 _ (sought _ _ _ _ _ c.loop-p.invariant.right.from c.skip_below-q.ensures)

pub returns-then-not-lies_at : goal.returns-then-not-lies_at
returns-then-not-lies_at c = containing_stop _ _ _ _ c.loop-p.invariant c.loop-p-test.true _ c.order_at.ensures.0 _ (sought _ _ _ _ _ c.loop-p.invariant.right.from c.skip_below-q.ensures) _ c.lies_at.ensures (c.if-not-lies_at.true)

pub whole_end-p-requires : goal.whole_end-p-requires
whole_end-p-requires c = head_here _ _ c.loop-p.invariant.left.from c.loop-p-test.true

pub loop-p-preserved : goal.loop-p-preserved
loop-p-preserved c = containing_on _ _ _ _ c.loop-p.invariant c.loop-p-test.true _ c.order_at.ensures.0 _ (sought _ _ _ _ _ c.loop-p.invariant.right.from c.skip_below-q.ensures) _ c.lies_at.ensures (c.if-not-lies_at.false) _ c.whole_end-p.ensures.is

pub returns : goal.returns
returns c = containing_end _ _ _ _ c.loop-p.invariant c.loop-p-test.false
