use Rattle.std.proofs.Common.{refl, arith}
use Rattle.tree_node.proofs.Shapes.{token_shown, name_inside, few, production_shown}
use Rattle.tree_node.proofs.node.node_at.Goals as goal

pub returns-then-place_at-ne0 : goal.returns-then-place_at-ne0
returns-then-place_at-ne0 c = λ l t h. token_shown _ _ _ _ _ l t h c.from.ensures c.place_at.ensures c.if-place_at-ne0.true

pub bounds-tree-at : goal.bounds-tree-at
bounds-tree-at c = name_inside _ _ _ _ _ c.requires.0 c.requires.1 c.requires.2 c.from.ensures c.place_at.ensures c.if-place_at-ne0.false

pub overflow_cast-result : goal.overflow_cast-result
overflow_cast-result c =
    let o = c.operands_at-operands.ensures c.requires.0 c.requires.1 c.requires.2 in
    omega (arith, few _ _ _ _ _ c.requires.0 c.requires.1 c.requires.2 c.from.ensures c.place_at.ensures c.if-place_at-ne0.false _ _ _ o)

pub returns : goal.returns
returns c = λ l t h.
    production_shown _ _ _ _ _ l t h c.from.ensures c.place_at.ensures c.if-place_at-ne0.false _ _ _ (c.operands_at-operands.ensures l t h) _ _ refl c.saturating_sub-arguments.ensures
