use native.Mathlib.Omega.{arith}
use mathlib.Core.Path.{refl, ◌∙◌}
use Rattle.format_translation.proofs.Whole.{item_long}
use Rattle.reduce_join.proofs.Operands.{reach_asks, number_asks}
use Rattle.reduce_join.proofs.Turns.{item_number, fields_all, fields_next, fields_end}
use Rattle.reduce_merge.proofs.Writing.{writing_start, writing_full, writing_next, writing_done}
use Rattle.reduce_join.proofs.body.join_item.Goals as goal

pub whole_end-e-requires : goal.whole_end-e-requires
whole_end-e-requires c = omega (arith, item_long _ _ c.requires.0)

pub order_at-i-requires : goal.order_at-i-requires
order_at-i-requires c = omega (arith, item_long _ _ c.requires.0)

pub kind_reached-kind-requires : goal.kind_reached-kind-requires
kind_reached-kind-requires c = (c.requires.2, (_, (reach_asks c.args.table.now c.args.first_uses.now c.args.second_body.now c.args.second_uses.now _ _ _ c.requires.5.2 _ c.requires.1 c.requires.2 c.requires.0 _ c.whole_end-e.ensures.is _ (item_number c.args.table.now c.args.first_uses.now c.args.second_body.now c.args.second_uses.now _ _ _ c.requires.5.2 _ c.requires.1 c.requires.2 c.requires.0 _ c.order_at-i.ensures.0))))

pub loop-j-init : goal.loop-j-init
loop-j-init c = (c.requires.3, refl, λ f g z. writing_start _ _ _ _ (fields_all c.args.table.now c.args.first_uses.now c.args.second_body.now c.args.second_uses.now _ f g z _))

pub join_number-requires : goal.join_number-requires
join_number-requires c = (c.loop-j.invariant.0, omega (arith, c.loop-j.invariant.1, c.requires.4), c.requires.2, (_, _, (number_asks c.args.table.now c.args.first_uses.now c.args.second_body.now c.args.second_uses.now _ _ _ c.requires.5.2 _ c.requires.1 c.requires.2 c.requires.0 _ c.whole_end-e.ensures.is _ (item_number c.args.table.now c.args.first_uses.now c.args.second_body.now c.args.second_uses.now _ _ _ c.requires.5.2 _ c.requires.1 c.requires.2 c.requires.0 _ c.order_at-i.ensures.0) (λ i. omega (arith, c.type_inv.second_body i)) _ (c.kind_reached-kind.ensures.1 _ (reach_asks c.args.table.now c.args.first_uses.now c.args.second_body.now c.args.second_uses.now _ _ _ c.requires.5.2 _ c.requires.1 c.requires.2 c.requires.0 _ c.whole_end-e.ensures.is _ (item_number c.args.table.now c.args.first_uses.now c.args.second_body.now c.args.second_uses.now _ _ _ c.requires.5.2 _ c.requires.1 c.requires.2 c.requires.0 _ c.order_at-i.ensures.0))) c.kind_reached-kind.ensures.0 _ c.loop-j-test.true)))

pub returns-in_err-at : goal.returns-in_err-at
returns-in_err-at c = λ f g z. rw c.from_residual.ensures (writing_full _ _ _ _ _ _ (c.loop-j.invariant.2 f g z) _ _ (fields_next f g _ _ _ _ c.loop-j-test.true) _ _ (c.join_number.ensures f g (number_asks c.args.table.now c.args.first_uses.now c.args.second_body.now c.args.second_uses.now _ f g z _ c.requires.1 c.requires.2 c.requires.0 _ c.whole_end-e.ensures.is _ (item_number c.args.table.now c.args.first_uses.now c.args.second_body.now c.args.second_uses.now _ f g z _ c.requires.1 c.requires.2 c.requires.0 _ c.order_at-i.ensures.0) (λ i. omega (arith, c.type_inv.second_body i)) _ (c.kind_reached-kind.ensures.1 _ (reach_asks c.args.table.now c.args.first_uses.now c.args.second_body.now c.args.second_uses.now _ f g z _ c.requires.1 c.requires.2 c.requires.0 _ c.whole_end-e.ensures.is _ (item_number c.args.table.now c.args.first_uses.now c.args.second_body.now c.args.second_uses.now _ f g z _ c.requires.1 c.requires.2 c.requires.0 _ c.order_at-i.ensures.0))) c.kind_reached-kind.ensures.0 _ c.loop-j-test.true)) c.in_err-at.was)

pub loop-j-preserved : goal.loop-j-preserved
loop-j-preserved c = (omega (arith, ((c.join_number.ensures _ _ (number_asks c.args.table.now c.args.first_uses.now c.args.second_body.now c.args.second_uses.now _ _ _ c.requires.5.2 _ c.requires.1 c.requires.2 c.requires.0 _ c.whole_end-e.ensures.is _ (item_number c.args.table.now c.args.first_uses.now c.args.second_body.now c.args.second_uses.now _ _ _ c.requires.5.2 _ c.requires.1 c.requires.2 c.requires.0 _ c.order_at-i.ensures.0) (λ i. omega (arith, c.type_inv.second_body i)) _ (c.kind_reached-kind.ensures.1 _ (reach_asks c.args.table.now c.args.first_uses.now c.args.second_body.now c.args.second_uses.now _ _ _ c.requires.5.2 _ c.requires.1 c.requires.2 c.requires.0 _ c.whole_end-e.ensures.is _ (item_number c.args.table.now c.args.first_uses.now c.args.second_body.now c.args.second_uses.now _ _ _ c.requires.5.2 _ c.requires.1 c.requires.2 c.requires.0 _ c.order_at-i.ensures.0))) c.kind_reached-kind.ensures.0 _ c.loop-j-test.true)).done _ c.in_ok-at.was).fits, c.join_number.auto.out), c.join_number.auto.out ∙ c.loop-j.invariant.1, λ f g z. writing_next _ _ _ _ _ _ (c.loop-j.invariant.2 f g z) _ _ (fields_next f g _ _ _ _ c.loop-j-test.true) _ _ (c.join_number.ensures f g (number_asks c.args.table.now c.args.first_uses.now c.args.second_body.now c.args.second_uses.now _ f g z _ c.requires.1 c.requires.2 c.requires.0 _ c.whole_end-e.ensures.is _ (item_number c.args.table.now c.args.first_uses.now c.args.second_body.now c.args.second_uses.now _ f g z _ c.requires.1 c.requires.2 c.requires.0 _ c.order_at-i.ensures.0) (λ i. omega (arith, c.type_inv.second_body i)) _ (c.kind_reached-kind.ensures.1 _ (reach_asks c.args.table.now c.args.first_uses.now c.args.second_body.now c.args.second_uses.now _ f g z _ c.requires.1 c.requires.2 c.requires.0 _ c.whole_end-e.ensures.is _ (item_number c.args.table.now c.args.first_uses.now c.args.second_body.now c.args.second_uses.now _ f g z _ c.requires.1 c.requires.2 c.requires.0 _ c.order_at-i.ensures.0))) c.kind_reached-kind.ensures.0 _ c.loop-j-test.true)) _ c.in_ok-at.was c.join_number.auto.out)

pub returns : goal.returns
returns c = λ f g z. writing_done _ _ _ _ _ _ (c.loop-j.invariant.2 f g z) (fields_end f g _ _ _ _ c.loop-j-test.false) c.loop-j.invariant.0
