use native.Mathlib.Omega.{arith}
use mathlib.Core.Path.{refl, ◌∙◌}
use Rattle.format_translation.proofs.Whole.{item_here, items_on}
use Rattle.reduce_join.proofs.Turns.{body_places, items_whole_lem, places_on, places_end, reached_start, reached_next}
use Rattle.reduce_merge.proofs.Writing.{writing_start, writing_full, writing_next, writing_done}
use Rattle.reduce_join.proofs.body.join_items.Goals as goal

pub loop-p-init : goal.loop-p-init
loop-p-init c = (omega arith, refl, reached_start _, items_whole_lem c.args.table.now c.args.first_uses.now c.args.second_body.now c.args.second_uses.now _ _ _ c.requires.1.2, λ f g z. writing_start _ _ _ _ (body_places c.args.table.now c.args.first_uses.now c.args.second_body.now c.args.second_uses.now _ f g z))

pub join_item-requires : goal.join_item-requires
join_item-requires c = (item_here _ _ c.loop-p.invariant.3 _ refl c.loop-p-test.true, c.loop-p.invariant.2, c.loop-p-test.true, c.loop-p.invariant.0, omega (arith, c.loop-p.invariant.1, c.requires.0), c.requires.1)

pub returns-in_err-n : goal.returns-in_err-n
returns-in_err-n c = λ f g z. rw c.from_residual.ensures (writing_full _ _ _ _ _ _ (c.loop-p.invariant.4 f g z) _ _ (places_on f g _ _ c.loop-p-test.true _ refl) _ _ (c.join_item.ensures f g z) c.in_err-n.was)

pub loop-p-smaller : goal.loop-p-smaller
loop-p-smaller c = omega (arith, c.field_end-p.ensures.past, c.loop-p-test.true)

pub loop-p-preserved : goal.loop-p-preserved
loop-p-preserved c = (omega (arith, ((c.join_item.ensures _ _ c.requires.1.2).done _ c.in_ok-n.was).fits, c.join_item.auto.out), c.join_item.auto.out ∙ c.loop-p.invariant.1, reached_next _ _ _ c.loop-p.invariant.2 c.loop-p-test.true c.field_end-p.ensures.is, items_on _ _ c.loop-p.invariant.3 _ c.field_end-p.ensures.is c.loop-p-test.true, λ f g z. writing_next _ _ _ _ _ _ (c.loop-p.invariant.4 f g z) _ _ (places_on f g _ _ c.loop-p-test.true _ c.field_end-p.ensures.is) _ _ (c.join_item.ensures f g z) _ c.in_ok-n.was c.join_item.auto.out)

pub returns : goal.returns
returns c = λ f g z. writing_done _ _ _ _ _ _ (c.loop-p.invariant.4 f g z) (places_end f g _ _ c.loop-p-test.false) c.loop-p.invariant.0
