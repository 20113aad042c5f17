use Rattle.tree_reader.proofs.Laws.{leaf_tree, leaf_code}
use Rattle.tree_reader.proofs.node.leaf_at.Goals as goal

pub returns-in-Tree : goal.returns-in-Tree
returns-in-Tree c = (leaf_tree _ _ _ _ _ _ c.in-Tree.is, tt)

pub returns-in-Code : goal.returns-in-Code
returns-in-Code c = (leaf_code _ _ _ _ _ _ c.in-Code.is c.code_leaf.ensures.0, c.code_leaf.ensures.1)
