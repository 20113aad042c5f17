-- The operation that tells what stands at a path of a tree (paper 02, 2026-06; the index by 2026-08).
use Rattle.std.specs.Prelude.{ℕ, List, Err, Ok}
use Rattle.outcome.specs.Outcome.{Result, value, refused, Outcome}
use Rattle.tree_block.specs.Blocks.{Block}
use Rattle.tree_block.specs.Operations.{find_block}
use Rattle.tree_node.specs.Nodes.{name_of, argument_count}

-- All that the operation answers: the outcome, and of the block at the path its kind, its name and how many arguments it has.
pub record NodeShown : Type 0 where
  pub outcome : Outcome
  pub kind : ℕ
  pub name : ℕ
  pub arguments : ℕ

-- The operation has no output, so its length is 0; a refusal has 0 in each.
abbrev pub node_shown : Result Block → NodeShown
node_shown (value b) = record { outcome = Ok 0; kind = b.kind; name = name_of b.subtree; arguments = argument_count b.subtree }
node_shown (refused r) = record { outcome = Err r; kind = 0; name = 0; arguments = 0 }

-- Show what stands at a path, with the refusals of the lookup of a block: 1 to 4 for the language, 14 to 16 over the whole tree, 22 for
-- the index, then 21 for the path.
unfoldable pub show_node : (language : List ℕ) (root : ℕ) (bytes index path : List ℕ) → NodeShown
show_node language root bytes index path = node_shown (find_block language root bytes index path)
