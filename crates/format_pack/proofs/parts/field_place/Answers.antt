use mathlib.Core.Path.{refl}
use Rattle.format_pack.proofs.Standing.{place_start, stands_nowhere, place_next, place_other, stands_here}
use Rattle.format_fields.proofs.Places.{head_there, every_here, every_after}
use Rattle.format_pack.proofs.parts.field_place.Goals as goal

pub loop-p-init : goal.loop-p-init
loop-p-init c = (c.requires, place_start _ _ _)

pub whole_end-e-requires : goal.whole_end-e-requires
whole_end-e-requires c = head_there _ _ (every_here _ _ _ c.loop-p.invariant.0 c.loop-p-test.true).0

pub returns-then-left-eq0 : goal.returns-then-left-eq0
returns-then-left-eq0 c = stands_here _ _ _ _ _ c.loop-p.invariant.1 _ c.whole_end-e.ensures.is c.loop-p-test.true _ refl c.if-s-p.true c.if-left-eq0.true (every_here _ _ _ c.loop-p.invariant.0 c.loop-p-test.true).0

pub loop-p-preserved-else-left-eq0 : goal.loop-p-preserved-else-left-eq0
loop-p-preserved-else-left-eq0 c = (every_after _ _ _ _ c.whole_end-e.ensures.is c.loop-p.invariant.0 c.loop-p-test.true, place_next _ _ _ _ _ c.loop-p.invariant.1 _ c.whole_end-e.ensures.is c.loop-p-test.true _ refl c.if-s-p.true c.if-left-eq0.false)

pub loop-p-preserved : goal.loop-p-preserved
loop-p-preserved c = (every_after _ _ _ _ c.whole_end-e.ensures.is c.loop-p.invariant.0 c.loop-p-test.true, place_other _ _ _ _ _ c.loop-p.invariant.1 _ c.whole_end-e.ensures.is c.loop-p-test.true _ refl c.if-s-p.false)

pub returns : goal.returns
returns c = stands_nowhere _ _ _ _ _ c.loop-p.invariant.1 c.loop-p-test.false
