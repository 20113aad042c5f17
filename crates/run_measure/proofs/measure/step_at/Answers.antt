use Prim.Native.Nat.{ℕ}
use lib.ListN.{get_or}
use mathlib.Core.Path.{refl, ap, ◌∙◌}
use mathlib.Core.List.{[]}
use native.Mathlib.Omega.{arith}
use Rattle.tree_reader.specs.declared.node.Syntax.TheVariants.{Tree}
use Rattle.tree_reader.proofs.Laws.{place_tree, named_node, named_in, named_kinds, named_end}
use Rattle.run_measure.proofs.Laws.{token_node, token_goes, token_in, name_goes}
use Rattle.run_measure.proofs.Learning.{token_decides, name_decides}
use Rattle.run_measure.proofs.measure.step_at.Goals as goal

pub returns-then-place-eq0-clause-is : goal.returns-then-place-eq0-clause-is
returns-then-place-eq0-clause-is g c = token_goes _ _ _ _ _ _ _ _ _ _ _ c.requires.9 c.token.ensures.0 c.leaf.ensures (token_node c.args.source.now c.args.index.now _ c.args.tree.now _ (c.place_at-class.ensures ∙ ap (λ (j : ℕ). get_or c.args.index.now j 0) c.from.ensures) c.production_place-place.ensures c.if-place-eq0.true)

pub returns-then-place-eq0-clause-within : goal.returns-then-place-eq0-clause-within
returns-then-place-eq0-clause-within g c = token_in _ _ _ _ _ _ _ _ c.requires.5 c.token.ensures.0 c.leaf.ensures c.token.ensures.1

pub returns-then-place-eq0-clause-decides : goal.returns-then-place-eq0-clause-decides
returns-then-place-eq0-clause-decides g c = token_decides _ _ _ _ _ _ _ _ _ c.token.ensures.0 c.leaf.ensures (token_node c.args.source.now c.args.index.now _ c.args.tree.now _ (c.place_at-class.ensures ∙ ap (λ (j : ℕ). get_or c.args.index.now j 0) c.from.ensures) c.production_place-place.ensures c.if-place-eq0.true)

pub first_operand-requires : goal.first_operand-requires
first_operand-requires g c =
    let w = named_in Tree c.args.source.now c.args.index.now [] _ c.args.tree.now _ (place_tree _ _ refl c.from.ensures c.place_at-class.ensures) c.production_place-place.ensures c.if-place-eq0.false c.requires.1 c.requires.2 (λ i. omega (arith, c.type_inv.tree i)) in
    omega arith

pub last_operand-requires : goal.last_operand-requires
last_operand-requires g c =
    let w = named_in Tree c.args.source.now c.args.index.now [] _ c.args.tree.now _ (place_tree _ _ refl c.from.ensures c.place_at-class.ensures) c.production_place-place.ensures c.if-place-eq0.false c.requires.1 c.requires.2 (λ i. omega (arith, c.type_inv.tree i)) in
    omega arith

pub add_own-requires : goal.add_own-requires
add_own-requires g c =
    let w = named_in Tree c.args.source.now c.args.index.now [] _ c.args.tree.now _ (place_tree _ _ refl c.from.ensures c.place_at-class.ensures) c.production_place-place.ensures c.if-place-eq0.false c.requires.1 c.requires.2 (λ i. omega (arith, c.type_inv.tree i)) in
    (c.requires.0, omega arith, c.requires.6, c.requires.7, c.requires.8, c.requires.4)

pub returns-clause-is : goal.returns-clause-is
returns-clause-is g c =
    name_goes _ _ _ _ _ _ _ _ _ _ _ (named_node Tree c.args.source.now c.args.index.now [] _ c.args.tree.now _ (place_tree _ _ refl c.from.ensures c.place_at-class.ensures) c.production_place-place.ensures c.if-place-eq0.false c.first_operand.ensures c.last_operand.ensures refl) c.first_operand.ensures
    c.add_own.ensures c.requires.9 c.add.ensures

pub returns-clause-within : goal.returns-clause-within
returns-clause-within g c = (
  omega arith,
  named_end Tree c.args.source.now c.args.index.now [] _ c.args.tree.now _ (place_tree _ _ refl c.from.ensures c.place_at-class.ensures) c.production_place-place.ensures c.if-place-eq0.false refl,
  omega arith,
  omega arith,
  named_kinds Tree c.args.source.now c.args.index.now [] _ c.args.tree.now _ (place_tree _ _ refl c.from.ensures c.place_at-class.ensures) c.production_place-place.ensures c.if-place-eq0.false c.requires.1 c.requires.2 (λ i. omega (arith, c.type_inv.tree i)) c.first_operand.ensures c.last_operand.ensures,
)

pub returns-clause-decides : goal.returns-clause-decides
returns-clause-decides g c = name_decides _ _ _ _ _ _ _ _ (named_node Tree c.args.source.now c.args.index.now [] _ c.args.tree.now _ (place_tree _ _ refl c.from.ensures c.place_at-class.ensures) c.production_place-place.ensures c.if-place-eq0.false c.first_operand.ensures c.last_operand.ensures refl)
