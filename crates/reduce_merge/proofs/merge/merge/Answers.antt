use native.Mathlib.Omega.{arith}
use Rattle.reduce_merge.proofs.Walks.{head_here, key_here, sought}
use Rattle.reduce_merge.proofs.Turns.{merging_inside, merging_done, merging_out, merging_low, merging_both, merging_moves, merging_full, merging_high}
use Rattle.reduce_merge.proofs.Prefixes.{shared_merge}
use Rattle.reduce_merge.proofs.merge.merge.Goals as goal
use Rattle.reduce_merge.proofs.merge.merge.Goals.{then-j-k, else-j-k, then-loop-p-test+else-q-b, else-loop-p-test}

pub loop-p-init : goal.loop-p-init
loop-p-init c = shared_merge _ _ _ _ c.requires (c.shared-start.ensures _) _

pub order_at-j-requires : goal.order_at-j-requires
order_at-j-requires c = key_here _ _ c.loop-p.invariant.left.from c.loop-p-test.true

pub order_at-k-requires : goal.order_at-k-requires
order_at-k-requires c = key_here _ _ c.loop-p.invariant.right.from c.if-q-b.true

pub put_both-requires : goal.put_both-requires
put_both-requires c = (merging_inside _ _ _ _ _ _ _ _ _ c.loop-p.invariant, (record { rise = (sought _ _ _ _ _ c.loop-p.invariant.right.from c.skip_below-d.ensures).past; fits = (sought _ _ _ _ _ c.loop-p.invariant.right.from c.skip_below-d.ensures).from.inside }, c.loop-p.invariant.room))

pub returns-in_err-n : goal.returns-in_err-n
returns-in_err-n c = rw c.from_residual.ensures (merging_full _ _ _ _ _ _ _ _ _ c.loop-p.invariant c.loop-p-test.true c.if-q-b.true _ _ c.order_at-j.ensures.0 c.order_at-k.ensures.0 c.if-k-j.true _ (sought _ _ _ _ _ c.loop-p.invariant.right.from c.skip_below-d.ensures) _ _ c.put_both.ensures c.in_err-n.was)

pub loop-p-smaller-then-k-j : goal.loop-p-smaller-then-k-j
loop-p-smaller-then-k-j c = omega (arith, merging_moves _ _ _ _ _ _ _ _ _ c.loop-p.invariant c.loop-p-test.true c.if-q-b.true _ _ c.order_at-j.ensures.0 c.order_at-k.ensures.0 c.if-k-j.true _ (sought _ _ _ _ _ c.loop-p.invariant.right.from c.skip_below-d.ensures), (sought _ _ _ _ _ c.loop-p.invariant.right.from c.skip_below-d.ensures).from.inside)

pub loop-p-preserved-then-k-j : goal.loop-p-preserved-then-k-j
loop-p-preserved-then-k-j c = merging_high _ _ _ _ _ _ _ _ _ c.loop-p.invariant c.loop-p-test.true c.if-q-b.true _ _ c.order_at-j.ensures.0 c.order_at-k.ensures.0 c.if-k-j.true _ (sought _ _ _ _ _ c.loop-p.invariant.right.from c.skip_below-d.ensures) _ _ c.put_both.ensures _ c.in_ok-n.was c.put_both.auto.out

pub whole_end-q-requires : goal.whole_end-q-requires
whole_end-q-requires c = head_here _ _ c.loop-p.invariant.right.from c.if-q-b.true

pub whole_end-p-requires : goal.whole_end-p-requires
whole_end-p-requires c = head_here _ _ c.loop-p.invariant.left.from c.loop-p-test.true

pub loop-p-preserved : goal.loop-p-preserved
loop-p-preserved c =
    elim c.if-j-k.branch [
      | then-j-k w ↦ rw w.q-is (merging_both _ _ _ _ _ _ _ _ _ c.loop-p.invariant c.loop-p-test.true c.if-q-b.true _ _ c.order_at-j.ensures.0 c.order_at-k.ensures.0 w.if-j-k.true _ c.whole_end-p.ensures.is _ w.whole_end-q.ensures.is)
      | else-j-k w ↦ rw w.q-is (merging_low _ _ _ _ _ _ _ _ _ c.loop-p.invariant c.loop-p-test.true c.if-q-b.true _ _ c.order_at-j.ensures.0 c.order_at-k.ensures.0 c.if-k-j.false w.if-j-k.false _ c.whole_end-p.ensures.is)
    ]

pub returns : goal.returns
returns c =
    elim c.loop-p-test.branch [
      | then-loop-p-test+else-q-b w ↦ merging_out _ _ _ _ _ _ _ _ _ c.loop-p.invariant w.if-q-b.false _ _ c.put_both-2.ensures
      | else-loop-p-test w ↦ merging_done _ _ _ _ _ _ _ _ _ c.loop-p.invariant w.loop-p-test.false _ _ c.put_both-2.ensures
    ]
