-- What holds of every edit (paper 02, 2026-08; the card by 2026-12).
use Rattle.std.specs.Prelude.{ℕ, ◌+◌, ◌<◌, ◌≡◌, List, ◌++◌, length, take, drop}
use Rattle.format_fields.specs.Fields.{byte_at}
use Rattle.outcome.specs.Outcome.{value}
use Rattle.format_language.specs.Language.{Language}
use Rattle.format_language.specs.LanguageFile.{language_of}
use Rattle.tree_reader.specs.Code.{Code}
use Rattle.tree_reader.specs.Syntax.{write, tree}
use Rattle.tree_index.specs.Spans.{index_of}
use Rattle.tree_index.specs.Operations.{indexed_tree}
use Rattle.format_card.specs.Card.{Card, sees, card_of}
use Rattle.tree_block.specs.Blocks.{Block, block_of, bytes_of, reached, block_at}
use Rattle.tree_block.specs.Operations.{find_block}
use Rattle.tree_edit.specs.Operations.{edit_plan}

-- A new plan, by the block that stood at the path.
pub record Edits (language : List ℕ) (root : ℕ) (bytes index path card block : List ℕ) (t : Code) : Type 0 where
  pub old : Block
  -- The path leads to a block of the old plan: to the one that is shown there without a card,
  pub there : find_block language root bytes index path ≡ value old
  -- and the card sees each block on the way, the root and that block included.
  pub seen : (l : Language) (c : Card) (plan : Code) → language_of language ≡ value l → card_of card ≡ value c → indexed_tree l root bytes index ≡ value plan
      → block_at (sees c) l path (block_of 0 root plan) ≡ reached old
  -- The bytes before and after the block are those of the old plan.
  pub around : write tree t ≡ take old.start bytes ++ (block ++ drop (old.start + length (bytes_of old)) bytes)
  -- The new plan is a legal tree of the root kind, within the levels and not too long, and its index is its own.
  pub legal : (l : Language) → language_of language ≡ value l → indexed_tree l root (write tree t) (index_of t) ≡ value t
  -- On the new plan the path gives the new block, of the same kind and at the same place.
  pub new : Block
  pub shown : find_block language root (write tree t) (index_of t) path ≡ value new
  pub same_place : (new.start ≡ old.start) × (new.kind ≡ old.kind)
  pub is_new : bytes_of new ≡ block
  -- The block that stood there changes nothing.
  pub unchanged : block ≡ bytes_of old → (write tree t ≡ bytes) × (index_of t ≡ index)

-- Every edit that is made is such a one.
abbrev pub EditsAreSound : Type 0
EditsAreSound =
    (language : List ℕ) (root : ℕ) (bytes index path card block : List ℕ) (t : Code)
    → ((i : ℕ) → byte_at bytes i < 256) → ((i : ℕ) → byte_at block i < 256)
    → edit_plan language root bytes index path card block ≡ value t → Edits language root bytes index path card block t
