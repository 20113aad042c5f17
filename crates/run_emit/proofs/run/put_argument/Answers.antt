use mathlib.Core.Path.{refl}
use Rattle.run_emit.proofs.Rows.{leaf_here, leaf_tree_put, leaf_code_put}
use Rattle.run_emit.proofs.run.put_argument.Goals as goal

pub leaf_length-requires : goal.leaf_length-requires
leaf_length-requires c = leaf_here _ _ _ c.requires.1.0

pub returns-in-Tree : goal.returns-in-Tree
returns-in-Tree c = (leaf_tree_put _ _ _ c.in-Tree.is c.put_token.ensures, rw c.leaf_length.ensures.0 refl)

pub returns-in-Code : goal.returns-in-Code
returns-in-Code c = (leaf_code_put _ _ _ c.in-Code.is c.number_at.ensures c.put_code_leaf.ensures, rw c.leaf_length.ensures.0 refl)
