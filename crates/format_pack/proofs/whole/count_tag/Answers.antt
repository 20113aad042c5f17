use native.Mathlib.Omega.{arith}
use mathlib.Core.Path.{refl}
use Rattle.format_pack.proofs.Passes.{count_start, count_done, count_here, count_other}
use Rattle.format_fields.proofs.Places.{head_there, every_here, every_after}
use Rattle.format_pack.proofs.whole.count_tag.Goals as goal

pub loop-p-init : goal.loop-p-init
loop-p-init c = (omega arith, c.requires, count_start _ _)

pub whole_end-e-requires : goal.whole_end-e-requires
whole_end-e-requires c = head_there _ _ (every_here _ _ _ c.loop-p.invariant.1 c.loop-p-test.true).0

pub loop-p-preserved-then-s-p : goal.loop-p-preserved-then-s-p
loop-p-preserved-then-s-p c = (omega (arith, c.whole_end-e.ensures.past), every_after _ _ _ _ c.whole_end-e.ensures.is c.loop-p.invariant.1 c.loop-p-test.true, count_here _ _ _ _ _ c.loop-p.invariant.2 _ c.whole_end-e.ensures.is c.loop-p-test.true _ refl c.if-s-p.true)

pub loop-p-preserved : goal.loop-p-preserved
loop-p-preserved c = (omega (arith, c.whole_end-e.ensures.past), every_after _ _ _ _ c.whole_end-e.ensures.is c.loop-p.invariant.1 c.loop-p-test.true, count_other _ _ _ _ _ c.loop-p.invariant.2 _ c.whole_end-e.ensures.is c.loop-p-test.true _ refl c.if-s-p.false)

pub returns : goal.returns
returns c = count_done c.args.tag c.args.s.now c.loop-p.p _ _ c.loop-p.invariant.2 c.loop-p-test.false
