-- What the holders of a card can do and tell by edits (paper 02, 2026-08 and 2026-12).
use Rattle.std.specs.Prelude.{ℕ, ◌+◌, ◌≡◌, true, List, length, take, drop}
use Rattle.outcome.specs.Outcome.{value}
use Rattle.format_language.specs.Language.{Language}
use Rattle.format_language.specs.LanguageFile.{language_of}
use Rattle.tree_reader.specs.Code.{Code}
use Rattle.tree_reader.specs.Syntax.{write, tree}
use Rattle.tree_reader.specs.Operations.{tree_of}
use Rattle.format_card.specs.Card.{Card, sees, card_of}
use Rattle.tree_block.specs.Blocks.{Block, bytes_of}
use Rattle.tree_block.specs.Operations.{find_block}
use Rattle.tree_mask.specs.Agreement.{Agree}
use Rattle.tree_mask.specs.Operations.{mask_tree}
use Rattle.tree_mask.specs.Laws.{Alike}
use Rattle.tree_edit.specs.Operations.{edit_plan}
use Rattle.laws_bytes.specs.Files.{OfBytes}

-- Two plans that agree outside hidden blocks, edited by the same card, path and block, both accepted: the new plans agree outside
-- hidden blocks and are masked alike.
abbrev pub EditsStayAlike : Type 0
EditsStayAlike =
    (language : List ℕ) (root : ℕ) (card path block first index second other : List ℕ) (l : Language) (c : Card) (s t u v : Code)
    → OfBytes first → OfBytes second → OfBytes block
    → language_of language ≡ value l → card_of card ≡ value c → tree_of l root first ≡ value s → tree_of l root second ≡ value t
    → Agree l c root s t
    → edit_plan language root first index path card block ≡ value u → edit_plan language root second other path card block ≡ value v
    → Agree l c root u v
    × ((o p : List ℕ) → length o ≡ length p
    → Alike (mask_tree language root card (write tree u) o) (mask_tree language root card (write tree v) p))

-- The bytes of a new plan before and behind the block are those of the old one; the card sees the block, and the path leads to it.
pub record OnlyTheBlock (language : List ℕ) (root : ℕ) (bytes index path block plan : List ℕ) (c : Card) : Type 0 where
  pub old : Block
  pub there : find_block language root bytes index path ≡ value old
  pub seen : sees c old.kind ≡ true
  pub front : take old.start plan ≡ take old.start bytes
  pub back : drop (old.start + length block) plan ≡ drop (old.start + length (bytes_of old)) bytes

-- An edit by a card changes no byte outside the block that the path reaches, which the card shows.
abbrev pub EditsStayInside : Type 0
EditsStayInside =
    (language : List ℕ) (root : ℕ) (bytes index path card block : List ℕ) (c : Card) (t : Code)
    → OfBytes bytes → OfBytes block → card_of card ≡ value c
    → edit_plan language root bytes index path card block ≡ value t
    → OnlyTheBlock language root bytes index path block (write tree t) c
