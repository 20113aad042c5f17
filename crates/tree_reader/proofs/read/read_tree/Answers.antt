use mathlib.Core.Path.{refl, ◌∙◌}
use native.Mathlib.Omega.{arith}
use Rattle.tree_reader.proofs.Laws.{node_tree, read_past, read_leaf, read_operands, leaf_in, operands_in}
use Rattle.tree_reader.proofs.Meaning.{tree_meant}
use Rattle.tree_reader.proofs.read.read_tree.Goals as goal

pub returns-then-levels-eq0 : goal.returns-then-levels-eq0
returns-then-levels-eq0 c = record { is = (λ l z. tree_meant _ _ _ l z (λ i. omega (arith, c.type_inv.bytes i)) _ _ _ c.requires.kind _ (read_past _ _ _ _ _ _ _ _ c.if-levels-eq0.true c.past_levels.ensures.0)); within = c.past_levels.ensures.1 }

pub operands-requires : goal.operands-requires
operands-requires c = let b = operands_in _ _ _ _ _ _ c.in-Operands.is c.tree_node.ensures.1 in (c.requires.sound, b.1, b.0)

pub returns-in-Leaf : goal.returns-in-Leaf
returns-in-Leaf c = record { is = (λ l z. tree_meant _ _ _ l z (λ i. omega (arith, c.type_inv.bytes i)) _ _ _ c.requires.kind _ (read_leaf _ _ _ _ _ _ _ _ c.if-levels-eq0.false (node_tree _ _ _ _ _ _ refl c.tree_node.ensures.0) c.in-Leaf.is)); within = leaf_in _ _ _ _ c.in-Leaf.is c.tree_node.ensures.1 }

pub returns-in-Operands : goal.returns-in-Operands
returns-in-Operands c = record { is = (λ l z. tree_meant _ _ _ l z (λ i. omega (arith, c.type_inv.bytes i)) _ _ _ c.requires.kind _ (c.operands.ensures.0 ∙ read_operands _ _ _ _ _ _ _ _ c.if-levels-eq0.false (node_tree _ _ _ _ _ _ refl c.tree_node.ensures.0) c.in-Operands.is)); within = c.operands.ensures.1 }
