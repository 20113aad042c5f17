-- The operation that shows one block of a tree (paper 02, 2026-06; the index by 2026-08).
use Rattle.std.specs.Prelude.{ℕ, List, [], length, Err, Ok}
use Rattle.outcome.specs.Outcome.{Result, value, refused, ◌>>=◌, Outcome}
use Rattle.outcome.specs.declared.Reason.TheVariants.{NoBlock, Hidden}
use Rattle.format_language.specs.LanguageFile.{language_of}
use Rattle.tree_index.specs.Operations.{indexed_tree}
use Rattle.tree_block.specs.Blocks.{Block, block_of, bytes_of, Reached, reached, nowhere, hidden, block_at, every_kind}

-- 21 where a path number is 0, is past the arguments, or stands at a token; 25 where a block on the way may not be seen.
abbrev pub found : Reached → Result Block
found (reached b) = value b
found nowhere = refused NoBlock
found hidden = refused Hidden

-- Find a block, whatever its kind: 1 to 4 for the language, 14 to 16 over the whole tree, 22 for the index, then 21 for the
-- path.
unfoldable pub find_block : (language : List ℕ) (root : ℕ) (bytes index path : List ℕ) → Result Block
find_block language root bytes index path =
    language_of language >>= λ l.
    indexed_tree l root bytes index >>= λ t.
    found (block_at every_kind l path (block_of 0 root t))

-- All that the operation answers: number and length, and the block by its start, its bytes and its kind.
pub record Shown : Type 0 where
  pub outcome : Outcome
  pub start : ℕ
  pub bytes : List ℕ
  pub kind : ℕ

-- A refusal hands back an empty part and kind 0.
abbrev pub shown : Result Block → Shown
shown (value b) = record { outcome = Ok (length (bytes_of b)); start = b.start; bytes = bytes_of b; kind = b.kind }
shown (refused r) = record { outcome = Err r; start = 0; bytes = []; kind = 0 }

-- Show one block.
unfoldable pub show_block : (language : List ℕ) (root : ℕ) (bytes index path : List ℕ) → Shown
show_block language root bytes index path = shown (find_block language root bytes index path)
