use Rattle.std.proofs.Common.{refl, false}
use Rattle.format_fields.proofs.Places.{ordered_done, ordered_stop, ordered_falls, ordered_next}
use Rattle.format_pack.proofs.Passes.{part_cut, part_is}
use Rattle.format_pack.proofs.whole.parts_ordered.Goals as goal

pub returns-in_default : goal.returns-in_default
returns-in_default c = ordered_stop _ _ _ _ _ c.loop-p.invariant false (part_cut _ _ (c.end_if_whole.ensures.cut c.in_default.is)) _ refl c.loop-p-test.true refl

pub returns-then-not-part_good : goal.returns-then-not-part_good
returns-then-not-part_good c = ordered_stop _ _ _ _ _ c.loop-p.invariant _ (part_is _ _ _ (c.end_if_whole.ensures.whole _ c.in-Some.is) _ c.part_good.ensures) _ refl c.loop-p-test.true (c.if-not-part_good.true)

pub returns-then-tag-last : goal.returns-then-tag-last
returns-then-tag-last c = ordered_falls _ _ _ _ _ c.loop-p.invariant _ (part_is _ _ _ (c.end_if_whole.ensures.whole _ c.in-Some.is) _ c.part_good.ensures) _ refl c.loop-p-test.true (c.if-not-part_good.false) _ refl c.if-tag-last.true

pub loop-p-preserved : goal.loop-p-preserved
loop-p-preserved c =
    let w = c.end_if_whole.ensures.whole _ c.in-Some.is in
    ordered_next _ _ _ _ _ c.loop-p.invariant _ (part_is _ _ _ w _ c.part_good.ensures) _ w.is c.loop-p-test.true c.if-not-part_good.false _ refl c.if-tag-last.false

pub returns : goal.returns
returns c = ordered_done _ _ _ _ _ c.loop-p.invariant c.loop-p-test.false
