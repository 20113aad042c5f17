use mathlib.Core.Path.{refl, sym, ◌∙◌}
use native.Mathlib.Omega.{arith}
use borrow.Author.Rules.{rules}
use Rattle.check_operations.proofs.Reading.{at_name, at_place}
use Rattle.tree_mask.proofs.Masks.{at_token, not_cut, not_deep}
use Rattle.tree_mask.proofs.Rows.{kind_in, row_short, inner_walk, inner_levels}
use Rattle.tree_mask.proofs.Walks.{row_put, step_again, step_done, advance, ended, ended_stop, entered, inner_put}
use Rattle.tree_mask.proofs.walk.+mask_row.Goals as goal

pub loop-next-init : goal.loop-next-init
loop-next-init t c = (c.requires, omega arith, refl, λ o₂ e h w. w)

pub bounds-language-q : goal.bounds-language-q
bounds-language-q t c = (kind_in c.args.language.now c.args.index.now c.args.tree.now c.loop-next.next c.loop-next.invariant.0 c.loop-next-test.true).0

pub place_at-class-requires : goal.place_at-class-requires
place_at-class-requires t c = let d = kind_in c.args.language.now c.args.index.now c.args.tree.now c.loop-next.next c.loop-next.invariant.0 c.loop-next-test.true in omega (arith, c.loop-next.invariant.0.sound.long, d.1, c.from.ensures)

pub production_place-place-requires : goal.production_place-place-requires
production_place-place-requires t c = (c.loop-next.invariant.0.sound.long, (kind_in c.args.language.now c.args.index.now c.args.tree.now c.loop-next.next c.loop-next.invariant.0 c.loop-next-test.true).1, c.loop-next.invariant.0.inside)

pub overflow_sub-tree : goal.overflow_sub-tree
overflow_sub-tree t c = let y = c.loop-next.invariant.0.inside in search rules

pub shape_of-out-then-tree-at-lt2 : goal.shape_of-out-then-tree-at-lt2
shape_of-out-then-tree-at-lt2 t c = c.loop-next.invariant.2

pub returns-then-tree-at-lt2 : goal.returns-then-tree-at-lt2
returns-then-tree-at-lt2 t c = step_done c.args.language.now c.args.index.now c.args.tree.now c.args.seen c.args.row c.args.out.now c.loop-next.next c.loop-next.out c.loop-next.invariant.3 _ _ (ended c.args.language.now c.args.index.now c.args.tree.now c.args.seen c.loop-next.next c.loop-next.invariant.0 c.loop-next.out c.loop-next-test.true refl c.ended.ensures c.loop-next.out (not_cut c.args.language.now c.args.index.now c.args.tree.now c.args.seen _ c.loop-next.next.tree c.loop-next.out c.loop-next.next.text c.loop-next.next.levels (kind_in c.args.language.now c.args.index.now c.args.tree.now c.loop-next.next c.loop-next.invariant.0 c.loop-next-test.true).1 (λ i. omega (arith, c.type_inv.tree i)) c.from.ensures c.place_at-class.ensures c.production_place-place.ensures c.if-place-eq0.true c.if-tree-at-lt2.true)) (ended_stop c.args.language.now c.args.index.now c.args.tree.now c.args.seen c.loop-next.next c.loop-next.invariant.0 c.loop-next.out c.loop-next-test.true refl c.ended.ensures)

pub in_set-requires : goal.in_set-requires
in_set-requires t c = (kind_in c.args.language.now c.args.index.now c.args.tree.now c.loop-next.next c.loop-next.invariant.0 c.loop-next-test.true).1

pub put_token-text-requires : goal.put_token-text-requires
put_token-text-requires t c = (omega (arith, c.if-tree-at-lt2.false, c.loop-next.invariant.0.inside), c.loop-next.invariant.0.behind)

pub overflow_add-at : goal.overflow_add-at
overflow_add-at t c = let y = c.loop-next.invariant.0.inside in search rules

pub behind-next-requires : goal.behind-next-requires
behind-next-requires t c = row_short c.args.language.now c.args.index.now c.args.tree.now c.loop-next.next c.loop-next.invariant.0 c.loop-next-test.true

pub loop-next-smaller-then-place-eq0 : goal.loop-next-smaller-then-place-eq0
loop-next-smaller-then-place-eq0 t c = (advance c.args.language.now c.args.index.now c.args.tree.now c.args.seen c.loop-next.next c.loop-next.invariant.0 c.loop-next.out c.loop-next-test.true refl _ _ c.behind-next.ensures _ (at_token c.args.language.now c.args.index.now c.args.tree.now c.args.seen _ c.loop-next.next.tree c.loop-next.out c.loop-next.next.text c.loop-next.next.levels (kind_in c.args.language.now c.args.index.now c.args.tree.now c.loop-next.next c.loop-next.invariant.0 c.loop-next-test.true).1 (λ i. omega (arith, c.type_inv.tree i)) c.from.ensures c.place_at-class.ensures c.production_place-place.ensures c.if-place-eq0.true c.in_set.ensures c.put_token-text.ensures.0) (omega (arith, c.if-tree-at-lt2.false, c.loop-next.invariant.0.inside)) (omega (arith, c.put_token-text.ensures.1, c.loop-next.invariant.0.behind))).nearer.less

pub loop-next-preserved-then-place-eq0 : goal.loop-next-preserved-then-place-eq0
loop-next-preserved-then-place-eq0 t c = step_again c.args.language.now c.args.index.now c.args.tree.now c.args.seen c.args.row c.args.out.now c.loop-next.next c.loop-next.out c.loop-next.invariant.3 _ _ (advance c.args.language.now c.args.index.now c.args.tree.now c.args.seen c.loop-next.next c.loop-next.invariant.0 c.loop-next.out c.loop-next-test.true refl _ _ c.behind-next.ensures _ (at_token c.args.language.now c.args.index.now c.args.tree.now c.args.seen _ c.loop-next.next.tree c.loop-next.out c.loop-next.next.text c.loop-next.next.levels (kind_in c.args.language.now c.args.index.now c.args.tree.now c.loop-next.next c.loop-next.invariant.0 c.loop-next-test.true).1 (λ i. omega (arith, c.type_inv.tree i)) c.from.ensures c.place_at-class.ensures c.production_place-place.ensures c.if-place-eq0.true c.in_set.ensures c.put_token-text.ensures.0) (omega (arith, c.if-tree-at-lt2.false, c.loop-next.invariant.0.inside)) (omega (arith, c.put_token-text.ensures.1, c.loop-next.invariant.0.behind))) c.loop-next.invariant.1 (c.put_token-text.auto.out ∙ c.loop-next.invariant.2)

pub in_set-requires-in-loop-next : goal.in_set-requires-in-loop-next
in_set-requires-in-loop-next t c = (kind_in c.args.language.now c.args.index.now c.args.tree.now c.loop-next.next c.loop-next.invariant.0 c.loop-next-test.true).1

pub mask_hidden-next-requires : goal.mask_hidden-next-requires
mask_hidden-next-requires t c = (c.loop-next.invariant.0, c.loop-next-test.true, refl)

pub loop-next-smaller-then-not-in_set : goal.loop-next-smaller-then-not-in_set
loop-next-smaller-then-not-in_set t c = (c.mask_hidden-next.ensures c.args.seen (sym c.in_set-in-loop-next.ensures ∙ c.if-not-in_set.true)).nearer.less

pub loop-next-preserved-then-not-in_set : goal.loop-next-preserved-then-not-in_set
loop-next-preserved-then-not-in_set t c = step_again c.args.language.now c.args.index.now c.args.tree.now c.args.seen c.args.row c.args.out.now c.loop-next.next c.loop-next.out c.loop-next.invariant.3 _ _ (c.mask_hidden-next.ensures c.args.seen (sym c.in_set-in-loop-next.ensures ∙ c.if-not-in_set.true)) c.loop-next.invariant.1 (c.mask_hidden-next.auto.out ∙ c.loop-next.invariant.2)

pub shape_of-out-then-next-eq0 : goal.shape_of-out-then-next-eq0
shape_of-out-then-next-eq0 t c = c.loop-next.invariant.2

pub returns-then-next-eq0 : goal.returns-then-next-eq0
returns-then-next-eq0 t c = step_done c.args.language.now c.args.index.now c.args.tree.now c.args.seen c.args.row c.args.out.now c.loop-next.next c.loop-next.out c.loop-next.invariant.3 _ _ (ended c.args.language.now c.args.index.now c.args.tree.now c.args.seen c.loop-next.next c.loop-next.invariant.0 c.loop-next.out c.loop-next-test.true refl c.ended-then-next-eq0.ensures c.loop-next.out (not_deep c.args.language.now c.args.index.now c.args.tree.now c.args.seen _ c.loop-next.next.tree c.loop-next.out c.loop-next.next.text c.loop-next.next.levels (kind_in c.args.language.now c.args.index.now c.args.tree.now c.loop-next.next c.loop-next.invariant.0 c.loop-next-test.true).1 (λ i. omega (arith, c.type_inv.tree i)) c.from.ensures c.place_at-class.ensures c.production_place-place.ensures c.if-place-eq0.false c.if-next-eq0.true)) (ended_stop c.args.language.now c.args.index.now c.args.tree.now c.args.seen c.loop-next.next c.loop-next.invariant.0 c.loop-next.out c.loop-next-test.true refl c.ended-then-next-eq0.ensures)

pub bounds-tree-at : goal.bounds-tree-at
bounds-tree-at t c = at_name c.args.language.now c.args.index.now c.args.tree.now _ c.loop-next.next.tree (kind_in c.args.language.now c.args.index.now c.args.tree.now c.loop-next.next c.loop-next.invariant.0 c.loop-next-test.true).1 (λ i. omega (arith, c.type_inv.tree i)) c.from.ensures c.place_at-class.ensures c.production_place-place.ensures c.if-place-eq0.false

pub inner-inner-requires : goal.inner-inner-requires
inner-inner-requires t c = let p = at_place c.args.language.now c.args.index.now c.args.tree.now _ c.loop-next.next.tree (kind_in c.args.language.now c.args.index.now c.args.tree.now c.loop-next.next c.loop-next.invariant.0 c.loop-next-test.true).1 (λ i. omega (arith, c.type_inv.tree i)) c.from.ensures c.place_at-class.ensures c.production_place-place.ensures c.if-place-eq0.false c.loop-next.invariant.0.sound in let m = at_name c.args.language.now c.args.index.now c.args.tree.now _ c.loop-next.next.tree (kind_in c.args.language.now c.args.index.now c.args.tree.now c.loop-next.next c.loop-next.invariant.0 c.loop-next-test.true).1 (λ i. omega (arith, c.type_inv.tree i)) c.from.ensures c.place_at-class.ensures c.production_place-place.ensures c.if-place-eq0.false in (p.0, p.1, omega (arith, c.if-next-eq0.false), omega (arith, m, c.well_formed.1.1.1.0.1), c.loop-next.invariant.0.behind)

pub overflow_add-next : goal.overflow_add-next
overflow_add-next t c = omega (arith, row_short c.args.language.now c.args.index.now c.args.tree.now c.loop-next.next c.loop-next.invariant.0 c.loop-next-test.true)

pub loop-next-smaller-then-next : goal.loop-next-smaller-then-next
loop-next-smaller-then-next t c = (entered c.args.language.now c.args.index.now c.args.tree.now c.args.seen c.loop-next.next c.loop-next.invariant.0 c.loop-next.out c.loop-next-test.true refl c.inner-inner.result _ (inner_put c.args.language.now c.args.index.now c.args.tree.now c.args.seen _ c.loop-next.next c.loop-next.out (kind_in c.args.language.now c.args.index.now c.args.tree.now c.loop-next.next c.loop-next.invariant.0 c.loop-next-test.true).1 (λ i. omega (arith, c.type_inv.tree i)) c.from.ensures c.place_at-class.ensures c.production_place-place.ensures c.if-place-eq0.false (omega (arith, c.if-next-eq0.false)) (sym c.in_set-in-loop-next.ensures ∙ c.if-not-in_set.false) _ c.put.ensures c.inner-inner.ensures) (inner_walk c.args.language.now c.args.index.now c.args.tree.now _ c.loop-next.next (kind_in c.args.language.now c.args.index.now c.args.tree.now c.loop-next.next c.loop-next.invariant.0 c.loop-next-test.true).1 (λ i. omega (arith, c.type_inv.tree i)) c.from.ensures c.place_at-class.ensures c.production_place-place.ensures c.if-place-eq0.false (omega (arith, c.if-next-eq0.false)) c.inner-inner.ensures c.loop-next.invariant.0.sound c.loop-next.invariant.0.behind) (inner_levels c.args.language.now c.args.index.now c.args.tree.now _ c.loop-next.next (kind_in c.args.language.now c.args.index.now c.args.tree.now c.loop-next.next c.loop-next.invariant.0 c.loop-next-test.true).1 (λ i. omega (arith, c.type_inv.tree i)) c.from.ensures c.place_at-class.ensures c.production_place-place.ensures c.if-place-eq0.false (omega (arith, c.if-next-eq0.false)) c.inner-inner.ensures) c.if-next.true).nearer.less

pub loop-next-preserved-then-next : goal.loop-next-preserved-then-next
loop-next-preserved-then-next t c = step_again c.args.language.now c.args.index.now c.args.tree.now c.args.seen c.args.row c.args.out.now c.loop-next.next c.loop-next.out c.loop-next.invariant.3 _ _ (entered c.args.language.now c.args.index.now c.args.tree.now c.args.seen c.loop-next.next c.loop-next.invariant.0 c.loop-next.out c.loop-next-test.true refl c.inner-inner.result _ (inner_put c.args.language.now c.args.index.now c.args.tree.now c.args.seen _ c.loop-next.next c.loop-next.out (kind_in c.args.language.now c.args.index.now c.args.tree.now c.loop-next.next c.loop-next.invariant.0 c.loop-next-test.true).1 (λ i. omega (arith, c.type_inv.tree i)) c.from.ensures c.place_at-class.ensures c.production_place-place.ensures c.if-place-eq0.false (omega (arith, c.if-next-eq0.false)) (sym c.in_set-in-loop-next.ensures ∙ c.if-not-in_set.false) _ c.put.ensures c.inner-inner.ensures) (inner_walk c.args.language.now c.args.index.now c.args.tree.now _ c.loop-next.next (kind_in c.args.language.now c.args.index.now c.args.tree.now c.loop-next.next c.loop-next.invariant.0 c.loop-next-test.true).1 (λ i. omega (arith, c.type_inv.tree i)) c.from.ensures c.place_at-class.ensures c.production_place-place.ensures c.if-place-eq0.false (omega (arith, c.if-next-eq0.false)) c.inner-inner.ensures c.loop-next.invariant.0.sound c.loop-next.invariant.0.behind) (inner_levels c.args.language.now c.args.index.now c.args.tree.now _ c.loop-next.next (kind_in c.args.language.now c.args.index.now c.args.tree.now c.loop-next.next c.loop-next.invariant.0 c.loop-next-test.true).1 (λ i. omega (arith, c.type_inv.tree i)) c.from.ensures c.place_at-class.ensures c.production_place-place.ensures c.if-place-eq0.false (omega (arith, c.if-next-eq0.false)) c.inner-inner.ensures) c.if-next.true) c.loop-next.invariant.1 (c.put.auto.out ∙ c.loop-next.invariant.2)

pub behind-next-requires-then-inner : goal.behind-next-requires-then-inner
behind-next-requires-then-inner t c = row_short c.args.language.now c.args.index.now c.args.tree.now c.loop-next.next c.loop-next.invariant.0 c.loop-next-test.true

pub loop-next-smaller-then-inner : goal.loop-next-smaller-then-inner
loop-next-smaller-then-inner t c = (advance c.args.language.now c.args.index.now c.args.tree.now c.args.seen c.loop-next.next c.loop-next.invariant.0 c.loop-next.out c.loop-next-test.true refl _ _ c.behind-next-then-inner.ensures _ (inner_put c.args.language.now c.args.index.now c.args.tree.now c.args.seen _ c.loop-next.next c.loop-next.out (kind_in c.args.language.now c.args.index.now c.args.tree.now c.loop-next.next c.loop-next.invariant.0 c.loop-next-test.true).1 (λ i. omega (arith, c.type_inv.tree i)) c.from.ensures c.place_at-class.ensures c.production_place-place.ensures c.if-place-eq0.false (omega (arith, c.if-next-eq0.false)) (sym c.in_set-in-loop-next.ensures ∙ c.if-not-in_set.false) _ c.put.ensures c.inner-inner.ensures _ _ _ (row_put c.args.language.now c.args.index.now c.args.tree.now c.args.seen c.inner-inner.result _ c.inner-inner.result _ (λ o₂ e h w. w) c.if-inner.true)) (inner_walk c.args.language.now c.args.index.now c.args.tree.now _ c.loop-next.next (kind_in c.args.language.now c.args.index.now c.args.tree.now c.loop-next.next c.loop-next.invariant.0 c.loop-next-test.true).1 (λ i. omega (arith, c.type_inv.tree i)) c.from.ensures c.place_at-class.ensures c.production_place-place.ensures c.if-place-eq0.false (omega (arith, c.if-next-eq0.false)) c.inner-inner.ensures c.loop-next.invariant.0.sound c.loop-next.invariant.0.behind).inside (inner_walk c.args.language.now c.args.index.now c.args.tree.now _ c.loop-next.next (kind_in c.args.language.now c.args.index.now c.args.tree.now c.loop-next.next c.loop-next.invariant.0 c.loop-next-test.true).1 (λ i. omega (arith, c.type_inv.tree i)) c.from.ensures c.place_at-class.ensures c.production_place-place.ensures c.if-place-eq0.false (omega (arith, c.if-next-eq0.false)) c.inner-inner.ensures c.loop-next.invariant.0.sound c.loop-next.invariant.0.behind).behind).nearer.less

pub loop-next-preserved-then-inner : goal.loop-next-preserved-then-inner
loop-next-preserved-then-inner t c = step_again c.args.language.now c.args.index.now c.args.tree.now c.args.seen c.args.row c.args.out.now c.loop-next.next c.loop-next.out c.loop-next.invariant.3 _ _ (advance c.args.language.now c.args.index.now c.args.tree.now c.args.seen c.loop-next.next c.loop-next.invariant.0 c.loop-next.out c.loop-next-test.true refl _ _ c.behind-next-then-inner.ensures _ (inner_put c.args.language.now c.args.index.now c.args.tree.now c.args.seen _ c.loop-next.next c.loop-next.out (kind_in c.args.language.now c.args.index.now c.args.tree.now c.loop-next.next c.loop-next.invariant.0 c.loop-next-test.true).1 (λ i. omega (arith, c.type_inv.tree i)) c.from.ensures c.place_at-class.ensures c.production_place-place.ensures c.if-place-eq0.false (omega (arith, c.if-next-eq0.false)) (sym c.in_set-in-loop-next.ensures ∙ c.if-not-in_set.false) _ c.put.ensures c.inner-inner.ensures _ _ _ (row_put c.args.language.now c.args.index.now c.args.tree.now c.args.seen c.inner-inner.result _ c.inner-inner.result _ (λ o₂ e h w. w) c.if-inner.true)) (inner_walk c.args.language.now c.args.index.now c.args.tree.now _ c.loop-next.next (kind_in c.args.language.now c.args.index.now c.args.tree.now c.loop-next.next c.loop-next.invariant.0 c.loop-next-test.true).1 (λ i. omega (arith, c.type_inv.tree i)) c.from.ensures c.place_at-class.ensures c.production_place-place.ensures c.if-place-eq0.false (omega (arith, c.if-next-eq0.false)) c.inner-inner.ensures c.loop-next.invariant.0.sound c.loop-next.invariant.0.behind).inside (inner_walk c.args.language.now c.args.index.now c.args.tree.now _ c.loop-next.next (kind_in c.args.language.now c.args.index.now c.args.tree.now c.loop-next.next c.loop-next.invariant.0 c.loop-next-test.true).1 (λ i. omega (arith, c.type_inv.tree i)) c.from.ensures c.place_at-class.ensures c.production_place-place.ensures c.if-place-eq0.false (omega (arith, c.if-next-eq0.false)) c.inner-inner.ensures c.loop-next.invariant.0.sound c.loop-next.invariant.0.behind).behind) c.loop-next.invariant.1 (c.put.auto.out ∙ c.loop-next.invariant.2)

pub mask_row-ends-requires : goal.mask_row-ends-requires
mask_row-ends-requires t c = (omega (arith, inner_levels c.args.language.now c.args.index.now c.args.tree.now _ c.loop-next.next (kind_in c.args.language.now c.args.index.now c.args.tree.now c.loop-next.next c.loop-next.invariant.0 c.loop-next-test.true).1 (λ i. omega (arith, c.type_inv.tree i)) c.from.ensures c.place_at-class.ensures c.production_place-place.ensures c.if-place-eq0.false (omega (arith, c.if-next-eq0.false)) c.inner-inner.ensures, c.loop-next.invariant.1, c.decreases), inner_walk c.args.language.now c.args.index.now c.args.tree.now _ c.loop-next.next (kind_in c.args.language.now c.args.index.now c.args.tree.now c.loop-next.next c.loop-next.invariant.0 c.loop-next-test.true).1 (λ i. omega (arith, c.type_inv.tree i)) c.from.ensures c.place_at-class.ensures c.production_place-place.ensures c.if-place-eq0.false (omega (arith, c.if-next-eq0.false)) c.inner-inner.ensures c.loop-next.invariant.0.sound c.loop-next.invariant.0.behind)

pub behind-next-requires-in-loop-next : goal.behind-next-requires-in-loop-next
behind-next-requires-in-loop-next t c = row_short c.args.language.now c.args.index.now c.args.tree.now c.loop-next.next c.loop-next.invariant.0 c.loop-next-test.true

pub loop-next-smaller : goal.loop-next-smaller
loop-next-smaller t c = (advance c.args.language.now c.args.index.now c.args.tree.now c.args.seen c.loop-next.next c.loop-next.invariant.0 c.loop-next.out c.loop-next-test.true refl _ _ c.behind-next-in-loop-next.ensures _ (inner_put c.args.language.now c.args.index.now c.args.tree.now c.args.seen _ c.loop-next.next c.loop-next.out (kind_in c.args.language.now c.args.index.now c.args.tree.now c.loop-next.next c.loop-next.invariant.0 c.loop-next-test.true).1 (λ i. omega (arith, c.type_inv.tree i)) c.from.ensures c.place_at-class.ensures c.production_place-place.ensures c.if-place-eq0.false (omega (arith, c.if-next-eq0.false)) (sym c.in_set-in-loop-next.ensures ∙ c.if-not-in_set.false) _ c.put.ensures c.inner-inner.ensures _ _ _ c.mask_row-ends.ensures.1) c.mask_row-ends.ensures.0.inside c.mask_row-ends.ensures.0.behind).nearer.less

pub loop-next-preserved : goal.loop-next-preserved
loop-next-preserved t c = step_again c.args.language.now c.args.index.now c.args.tree.now c.args.seen c.args.row c.args.out.now c.loop-next.next c.loop-next.out c.loop-next.invariant.3 _ _ (advance c.args.language.now c.args.index.now c.args.tree.now c.args.seen c.loop-next.next c.loop-next.invariant.0 c.loop-next.out c.loop-next-test.true refl _ _ c.behind-next-in-loop-next.ensures _ (inner_put c.args.language.now c.args.index.now c.args.tree.now c.args.seen _ c.loop-next.next c.loop-next.out (kind_in c.args.language.now c.args.index.now c.args.tree.now c.loop-next.next c.loop-next.invariant.0 c.loop-next-test.true).1 (λ i. omega (arith, c.type_inv.tree i)) c.from.ensures c.place_at-class.ensures c.production_place-place.ensures c.if-place-eq0.false (omega (arith, c.if-next-eq0.false)) (sym c.in_set-in-loop-next.ensures ∙ c.if-not-in_set.false) _ c.put.ensures c.inner-inner.ensures _ _ _ c.mask_row-ends.ensures.1) c.mask_row-ends.ensures.0.inside c.mask_row-ends.ensures.0.behind) c.loop-next.invariant.1 (c.mask_row-ends.auto.out ∙ (c.put.auto.out ∙ c.loop-next.invariant.2))

pub shape_of-out : goal.shape_of-out
shape_of-out t c = c.loop-next.invariant.2

pub returns : goal.returns
returns t c = (c.loop-next.invariant.0, row_put c.args.language.now c.args.index.now c.args.tree.now c.args.seen c.args.row c.args.out.now c.loop-next.next _ c.loop-next.invariant.3 c.loop-next-test.false)
