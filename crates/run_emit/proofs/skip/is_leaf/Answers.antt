use Rattle.run_emit.proofs.Skips.{leaf_tree, leaf_code}
use Rattle.run_emit.proofs.skip.is_leaf.Goals as goal

pub returns-in-Tree : goal.returns-in-Tree
returns-in-Tree c = leaf_tree _ _ _ _ c.in-Tree.is c.index_at.ensures.0

pub returns-in-Code : goal.returns-in-Code
returns-in-Code c = leaf_code _ _ _ _ c.in-Code.is
