-- What is said of every block that is shown (paper 02, 2026-06): it is a legal tree of the kind that is reported, and its
-- bytes are a part of the tree.
use Rattle.std.specs.Prelude.{ℕ, ◌+◌, ◌<◌, ◌≤◌, ◌≡◌, List, [], length, take, drop}
use Rattle.format_fields.specs.Fields.{byte_at}
use Rattle.outcome.specs.Outcome.{value}
use Rattle.format_language.specs.Language.{Language}
use Rattle.format_language.specs.LanguageFile.{language_of}
use Rattle.tree_reader.specs.Typing.{Typed}
use Rattle.tree_reader.specs.Operations.{tree_of}
use Rattle.tree_block.specs.Blocks.{Block, bytes_of}
use Rattle.tree_block.specs.Operations.{find_block}

-- The block is a legal tree of its kind, its bytes are accepted as that tree, and they stand in the whole tree's bytes
-- where it starts.
pub record LegalPart (l : Language) (bytes : List ℕ) (b : Block) : Type 0 where
  pub typed : Typed l [] b.subtree b.kind
  pub accepted : tree_of l b.kind (bytes_of b) ≡ value b.subtree
  pub inside : b.start + length (bytes_of b) ≤ length bytes
  pub part : take (length (bytes_of b)) (drop b.start bytes) ≡ bytes_of b

-- Every block that is found is such a part of the tree.
abbrev pub BlocksAreLegal : Type 0
BlocksAreLegal =
    (language : List ℕ) (root : ℕ) (bytes index path : List ℕ) (l : Language) (b : Block) → ((i : ℕ) → byte_at bytes i < 256)
    → language_of language ≡ value l → find_block language root bytes index path ≡ value b → LegalPart l bytes b

-- The empty path gives the whole tree.
abbrev pub EmptyPathIsWhole : Type 0
EmptyPathIsWhole =
    (language : List ℕ) (root : ℕ) (bytes index : List ℕ) (b : Block) → ((i : ℕ) → byte_at bytes i < 256)
    → find_block language root bytes index [] ≡ value b → (b.start ≡ 0) × (b.kind ≡ root) × (bytes_of b ≡ bytes)
