use native.Mathlib.Omega.{arith}
use Rattle.tree_index.proofs.Rows.{there_ready}
use Rattle.tree_index.proofs.Shapes.{at_token, name_there, named, at_node}
use Rattle.tree_index.proofs.operands.operands_at.Goals as goal

pub returns-then-class-ne0 : goal.returns-then-class-ne0
returns-then-class-ne0 c = λ l t h. at_token _ _ _ _ _ l t h _ _ c.from.ensures c.place_at-class.ensures c.if-class-ne0.true

pub bounds-tree-at : goal.bounds-tree-at
bounds-tree-at c = name_there _ _ _ _ _ c.requires.0 c.requires.1 c.requires.2 _ _ c.from.ensures c.place_at-class.ensures (λ i. omega (arith, c.type_inv.tree i)) c.if-class-ne0.false

pub production_key-key-requires : goal.production_key-key-requires
production_key-key-requires c = let y = there_ready _ _ _ _ _ _ _ c.requires.2 in (omega (arith, y.kind, c.from-2.ensures), omega (arith, c.from-3.ensures, c.type_inv.tree c.args.at))

pub operands_of-operands-requires : goal.operands_of-operands-requires
operands_of-operands-requires c = let y = named _ _ _ _ _ c.requires.0 c.requires.1 c.requires.2 _ _ c.from.ensures c.place_at-class.ensures (λ i. omega (arith, c.type_inv.tree i)) c.if-class-ne0.false _ _ _ _ c.from-2.ensures c.from-3.ensures c.production_key-key.ensures.0 c.place_at.ensures in (omega (arith, y.there, y.short), omega (arith, y.there))

pub returns : goal.returns
returns c = λ l t h. at_node _ _ _ _ _ l t h _ _ c.from.ensures c.place_at-class.ensures (λ i. omega (arith, c.type_inv.tree i)) c.if-class-ne0.false _ _ _ _ c.from-2.ensures c.from-3.ensures c.production_key-key.ensures.0 c.place_at.ensures _ _ c.operands_of-operands.ensures.0 c.operands_of-operands.ensures.1
