use mathlib.Core.Path.{refl, ◌∙◌}
use native.Mathlib.Omega.{arith}
use Rattle.reduce_merge.proofs.Walks.{whole_here, head_here, key_here}
use Rattle.reduce_merge.proofs.Prefixes.{shared_agree}
use Rattle.reduce_merge.proofs.Agreeing.{agree_end, agree_out, agree_below, agree_above, agree_clash, agree_same}
use Rattle.reduce_merge.proofs.within.agree.Goals as goal
use Rattle.reduce_merge.proofs.within.agree.Goals.{then-key-other-2+else-not-same_field, else-key-other-2, else-loop-q-test, then-loop-q-test+then-key-other}

pub clash-init : goal.clash-init
clash-init c = (refl, shared_agree _ _ _ _ c.requires (c.shared-start.ensures _))

pub order_at-key-requires : goal.order_at-key-requires
order_at-key-requires c = key_here _ _ c.clash.invariant.1.left.from c.clash-test.true

pub loop-q-init : goal.loop-q-init
loop-q-init c = c.clash.invariant

pub order_at-other-requires : goal.order_at-other-requires
order_at-other-requires c = key_here _ _ c.loop-q.invariant.1.right.from c.loop-q-test.true

pub same_field-requires : goal.same_field-requires
same_field-requires c = (whole_here _ _ c.loop-q.invariant.1.left.from c.clash-test.true, whole_here _ _ c.loop-q.invariant.1.right.from c.loop-q-test.true)

pub whole_end-q-requires : goal.whole_end-q-requires
whole_end-q-requires c = head_here _ _ c.loop-q.invariant.1.right.from c.loop-q-test.true

pub loop-q-smaller : goal.loop-q-smaller
loop-q-smaller c = omega (arith, c.whole_end-q.ensures.past, c.loop-q-test.true)

pub loop-q-preserved : goal.loop-q-preserved
loop-q-preserved c = (c.loop-q.invariant.0, elim c.if-key-other-2.branch [ then-key-other-2+else-not-same_field w ↦ agree_same _ _ _ _ _ c.loop-q.invariant.1 c.clash-test.true c.loop-q-test.true _ _ c.order_at-key.ensures.0 c.order_at-other.ensures.0 w.if-key-other-2.true _ w.same_field.ensures w.if-not-same_field.false _ c.whole_end-q.ensures.is | else-key-other-2 w ↦ agree_above _ _ _ _ _ c.loop-q.invariant.1 c.clash-test.true c.loop-q-test.true _ _ c.order_at-key.ensures.0 c.order_at-other.ensures.0 c.if-key-other.false w.if-key-other-2.false _ c.whole_end-q.ensures.is ])

pub whole_end-p-requires : goal.whole_end-p-requires
whole_end-p-requires c = head_here _ _ c.loop-q.invariant.1.left.from c.clash-test.true

pub clash-smaller : goal.clash-smaller
clash-smaller c = omega (arith, c.whole_end-p.ensures.past, c.clash-test.true)

pub clash-preserved : goal.clash-preserved
clash-preserved c = (c.loop-q.invariant.0, elim c.loop-q-test.branch [ else-loop-q-test w ↦ agree_out _ _ _ _ _ c.loop-q.invariant.1 c.clash-test.true w.loop-q-test.false _ c.whole_end-p.ensures.is | then-loop-q-test+then-key-other w ↦ agree_below _ _ _ _ _ c.loop-q.invariant.1 c.clash-test.true w.loop-q-test.true _ _ c.order_at-key.ensures.0 w.order_at-other.ensures.0 w.if-key-other.true _ c.whole_end-p.ensures.is ])

pub returns-after-clash : goal.returns-after-clash
returns-after-clash c = c.clash.invariant.0 ∙ agree_end _ _ _ _ _ c.clash.invariant.1 c.clash-test.false

pub returns-then-not-same_field : goal.returns-then-not-same_field
returns-then-not-same_field c = agree_clash _ _ _ _ _ c.loop-q.invariant.1 c.clash-test.true c.loop-q-test.true _ _ c.order_at-key.ensures.0 c.order_at-other.ensures.0 c.if-key-other-2.true _ c.same_field.ensures (c.if-not-same_field.true)
