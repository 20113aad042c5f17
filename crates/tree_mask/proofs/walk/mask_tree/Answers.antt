use mathlib.Core.Path.{sym, ap, ◌∙◌}
use native.Mathlib.Omega.{arith}
use Rattle.check_operations.proofs.Reading.{at_name, at_place}
use Rattle.tree_mask.specs.Inner.Rows.{whole_row, inner_row}
use Rattle.tree_mask.proofs.Masks.{at_token, not_cut, whole_hidden, whole_not, whole_is}
use Rattle.tree_mask.proofs.Rows.{inner_walk}
use Rattle.tree_mask.proofs.Walks.{inner_put}
use Rattle.tree_mask.proofs.walk.mask_tree.Goals as goal

pub returns-then-not-in_set : goal.returns-then-not-in_set
returns-then-not-in_set c = whole_hidden c.args.language.now c.args.index.now c.args.tree.now c.args.seen c.args.kind c.args.out.now (sym c.in_set.ensures ∙ c.if-not-in_set.true) c.put.ensures

pub returns-then-tree-lt2 : goal.returns-then-tree-lt2
returns-then-tree-lt2 c = whole_not c.args.language.now c.args.index.now c.args.tree.now c.args.seen c.args.kind c.args.out.now (not_cut c.args.language.now c.args.index.now c.args.tree.now c.args.seen c.args.kind 0 c.args.out.now 0 64 c.requires.kind (λ i. omega (arith, c.type_inv.tree i)) c.from.ensures c.place_at-class.ensures c.production_place-place.ensures c.if-place-eq0.true (omega (arith, c.if-tree-lt2.true)))

pub returns-then-place-eq0 : goal.returns-then-place-eq0
returns-then-place-eq0 c = whole_is c.args.language.now c.args.index.now c.args.tree.now c.args.seen c.args.kind c.args.out.now (at_token c.args.language.now c.args.index.now c.args.tree.now c.args.seen c.args.kind 0 c.args.out.now 0 64 c.requires.kind (λ i. omega (arith, c.type_inv.tree i)) c.from.ensures c.place_at-class.ensures c.production_place-place.ensures c.if-place-eq0.true (sym (sym c.in_set.ensures ∙ c.if-not-in_set.false)) c.put_token.ensures.0)

pub bounds-tree-0 : goal.bounds-tree-0
bounds-tree-0 c = at_name c.args.language.now c.args.index.now c.args.tree.now c.args.kind 0 c.requires.kind (λ i. omega (arith, c.type_inv.tree i)) c.from.ensures c.place_at-class.ensures c.production_place-place.ensures c.if-place-eq0.false

pub inner-row-requires : goal.inner-row-requires
inner-row-requires c = let w = at_place c.args.language.now c.args.index.now c.args.tree.now c.args.kind 0 c.requires.kind (λ i. omega (arith, c.type_inv.tree i)) c.from.ensures c.place_at-class.ensures c.production_place-place.ensures c.if-place-eq0.false c.requires.sound in let e = c.whole.ensures in (w.0, w.1, rw e (omega arith), rw e (omega arith), rw e (omega arith))

pub mask_row-ends-requires : goal.mask_row-ends-requires
mask_row-ends-requires c = inner_walk c.args.language.now c.args.index.now c.args.tree.now c.args.kind whole_row c.requires.kind (λ i. omega (arith, c.type_inv.tree i)) c.from.ensures c.place_at-class.ensures c.production_place-place.ensures c.if-place-eq0.false (omega arith) (c.inner-row.ensures ∙ ap (inner_row c.args.language.now _) c.whole.ensures) c.requires.sound (omega arith)

pub returns : goal.returns
returns c = whole_is c.args.language.now c.args.index.now c.args.tree.now c.args.seen c.args.kind c.args.out.now (inner_put c.args.language.now c.args.index.now c.args.tree.now c.args.seen c.args.kind whole_row c.args.out.now c.requires.kind (λ i. omega (arith, c.type_inv.tree i)) c.from.ensures c.place_at-class.ensures c.production_place-place.ensures c.if-place-eq0.false (omega arith) (sym c.in_set.ensures ∙ c.if-not-in_set.false) _ c.put-2.ensures (c.inner-row.ensures ∙ ap (inner_row c.args.language.now _) c.whole.ensures) _ _ _ c.mask_row-ends.ensures.1)
