use Rattle.tree_reader.proofs.Laws.{past_tree, past_code}
use Rattle.tree_reader.proofs.node.past_levels.Goals as goal

pub returns-in-Tree : goal.returns-in-Tree
returns-in-Tree c = (past_tree _ _ _ _ _ c.in-Tree.is c.past_tree.ensures.0, c.past_tree.ensures.1)

pub returns-in-Code : goal.returns-in-Code
returns-in-Code c = (past_code _ _ _ _ _ c.in-Code.is c.past_code.ensures.0, c.past_code.ensures.1)
