use mathlib.Core.Path.{refl, ap, ◌∙◌}
use native.Mathlib.Omega.{arith}
use lib.ListN.{get_or}
use mir.Syntax.{w64}
use mir.Facts.{to_z-of_z}
use Rattle.score_tree.proofs.Integers.{told}
use Rattle.score_tree.proofs.Leaves.{asked_as}
use Rattle.score_tree.proofs.Terms.{term_in, leaf_in, leaf_adds, name_in, node_left, node_asked, node_adds}
use Rattle.score_tree.proofs.Walking.{adds_outside, figure_near, walk_begin, row_asked, operand, operand_asks, walk_outside, walk_next, walk_wide, walk_end}
use Prim.Native.Nat.{ℕ, ◌+◌}
use Rattle.score_tree.proofs.form.+form_at_form_node.Goals as goal

pub form_at-bounds-bytes-at : goal.form_at-bounds-bytes-at
form_at-bounds-bytes-at t c = term_in c.requires.1.4

pub form_at-add_leaf-requires : goal.form_at-add_leaf-requires
form_at-add_leaf-requires t c = (leaf_in c.requires.1.4 c.if-bytes-at-ne1.true, asked_as (to_z-of_z c.ranges.factor) c.requires.0)

pub form_at-returns-then-bytes-at-ne1 : goal.form_at-returns-then-bytes-at-ne1
form_at-returns-then-bytes-at-ne1 t c = λ l given w u a. leaf_adds a c.if-bytes-at-ne1.true (to_z-of_z c.ranges.factor) c.add_leaf.ensures

pub form_at-bounds-bytes-at-2 : goal.form_at-bounds-bytes-at-2
form_at-bounds-bytes-at-2 t c = let i = name_in c.requires.1.4 c.if-bytes-at-ne1.false in omega (arith, i)

pub form_at-overflow_sub-left : goal.form_at-overflow_sub-left
form_at-overflow_sub-left t c = omega (arith, node_left c.requires.1.4 c.if-bytes-at-ne1.false)

pub form_at-form_node-requires : goal.form_at-form_node-requires
form_at-form_node-requires t c = (omega (arith, c.decreases, node_left c.requires.1.4 c.if-bytes-at-ne1.false), (asked_as (to_z-of_z c.ranges.factor) c.requires.0, (c.requires.1.0, c.requires.1.1, c.requires.1.2, _, _, _, _, node_asked c.requires.1.4 c.if-bytes-at-ne1.false _ _ _ c.from-name.ensures (omega (arith, c.from-name.ensures, c.type_inv.bytes (c.args.at + 1))) c.from.ensures (c.place_at-production.ensures ∙ ap (λ (i : ℕ). get_or c.args.loaded.now.index.now i 0) c.production_key-key.ensures.0))))

pub form_at-returns : goal.form_at-returns
form_at-returns t c = λ l given w u a. node_adds a c.if-bytes-at-ne1.false _ _ _ c.from-name.ensures (omega (arith, c.from-name.ensures, c.type_inv.bytes (c.args.at + 1))) c.from.ensures (c.place_at-production.ensures ∙ ap (λ (i : ℕ). get_or c.args.loaded.now.index.now i 0) c.production_key-key.ensures.0) (to_z-of_z c.ranges.factor) (c.form_node.ensures l given w _ _ _ _ (node_asked a c.if-bytes-at-ne1.false _ _ _ c.from-name.ensures (omega (arith, c.from-name.ensures, c.type_inv.bytes (c.args.at + 1))) c.from.ensures (c.place_at-production.ensures ∙ ap (λ (i : ℕ). get_or c.args.loaded.now.index.now i 0) c.production_key-key.ensures.0)))

pub form_node-loop-q-init : goal.form_node-loop-q-init
form_node-loop-q-init t c = λ l given w k p ts ks a. walk_begin a _ _ _ c.last_operand-stop.ensures c.first_operand-q.ensures _ _ (told w64 c.from.result c.from.type_inv ∙ c.from.ensures) refl

pub form_node-form_at-requires : goal.form_node-form_at-requires
form_node-form_at-requires t c = (omega (arith, c.decreases), (row_asked c.requires.1.7 (c.loop-q.invariant _ _ _ _ _ _ _ c.requires.1.7) c.requires.0 _ (figure_near c.requires.1.7 _), (c.requires.1.0, c.requires.1.1, c.requires.1.2, operand c.requires.1.7 (c.loop-q.invariant _ _ _ _ _ _ _ c.requires.1.7) c.loop-q-test.true, operand_asks c.requires.1.7 (c.loop-q.invariant _ _ _ _ _ _ _ c.requires.1.7) c.loop-q-test.true)))

pub form_node-returns-in_err-to : goal.form_node-returns-in_err-to
form_node-returns-in_err-to t c = λ l given w k p ts ks a. rw c.from_residual.ensures (adds_outside (walk_outside a (c.loop-q.invariant l given w k p ts ks a) c.loop-q-test.true (c.form_at.ensures l given w _ (operand_asks a (c.loop-q.invariant l given w k p ts ks a) c.loop-q-test.true)) c.in_err-to.was))

pub form_node-loop-q-preserved : goal.form_node-loop-q-preserved
form_node-loop-q-preserved t c = λ l given w k p ts ks a. walk_next a (c.loop-q.invariant l given w k p ts ks a) c.loop-q-test.true (c.form_at.ensures l given w _ (operand_asks a (c.loop-q.invariant l given w k p ts ks a) c.loop-q-test.true)) _ c.in_ok-to.was refl

pub form_node-add_row-requires : goal.form_node-add_row-requires
form_node-add_row-requires t c = (row_asked c.requires.1.7 (c.loop-q.invariant _ _ _ _ _ _ _ c.requires.1.7) c.requires.0 _ (rw (to_z-of_z c.ranges.factor) c.requires.0.small), asked_as (to_z-of_z c.ranges.factor) c.requires.0)

pub form_node-returns-in_err-add_row : goal.form_node-returns-in_err-add_row
form_node-returns-in_err-add_row t c = λ l given w k p ts ks a. rw c.from_residual-in_err-add_row.ensures (adds_outside (walk_wide a (c.loop-q.invariant l given w k p ts ks a) c.loop-q-test.false c.add_row.ensures c.in_err-add_row.was))

pub form_node-returns : goal.form_node-returns
form_node-returns t c = λ l given w k p ts ks a. walk_end a (c.loop-q.invariant l given w k p ts ks a) c.loop-q-test.false c.add_row.ensures (to_z-of_z c.ranges.factor) c.in_ok-add_row.was
