use native.Mathlib.Omega.{arith}
use Rattle.format_translation.proofs.PlainWalk.{whole_start, left_start, left_end, head_there, whole_next, left_number, left_next}
use Rattle.format_translation.proofs.plain.is_plain.Goals as goal

pub loop-p-init : goal.loop-p-init
loop-p-init c = (whole_start _ c.requires.0 c.requires.1, λ b e. left_start _ b e)

pub returns-then-body-p-ge-NUMBERED : goal.returns-then-body-p-ge-NUMBERED
returns-then-body-p-ge-NUMBERED c = λ b e. left_number _ _ c.loop-p.invariant.0 c.loop-p-test.true b (c.loop-p.invariant.1 b e) c.if-body-p-ge-NUMBERED.true

pub whole_end-p-requires : goal.whole_end-p-requires
whole_end-p-requires c = head_there _ _ c.loop-p.invariant.0 c.loop-p-test.true

pub loop-p-smaller : goal.loop-p-smaller
loop-p-smaller c = omega (arith, c.whole_end-p.ensures.past, c.loop-p-test.true)

pub loop-p-preserved : goal.loop-p-preserved
loop-p-preserved c = (whole_next _ _ c.loop-p.invariant.0 c.loop-p-test.true _ c.whole_end-p.ensures.is, λ b e. left_next _ _ c.loop-p.invariant.0 c.loop-p-test.true b (c.loop-p.invariant.1 b e) c.if-body-p-ge-NUMBERED.false _ c.whole_end-p.ensures.is)

pub returns : goal.returns
returns c = λ b e. left_end _ _ b (c.loop-p.invariant.1 b e) c.loop-p-test.false
