-- What a masked plan keeps back and what it shows (paper 02, 2026-12).
use Rattle.std.specs.Prelude.{ℕ, ◌≡◌, List, ◌++◌, length, take}
use Rattle.outcome.specs.Outcome.{value, length_of}
use Rattle.format_language.specs.Language.{Language}
use Rattle.format_language.specs.LanguageFile.{language_of}
use Rattle.tree_reader.specs.Code.{Code}
use Rattle.tree_reader.specs.Syntax.{write, tree}
use Rattle.tree_reader.specs.Operations.{tree_of}
use Rattle.format_translation.specs.Operations.{Ran}
use Rattle.format_card.specs.Card.{Card, card_of}
use Rattle.tree_mask.specs.Mask.{masked}
use Rattle.tree_mask.specs.Operations.{mask_tree}
use Rattle.tree_mask.specs.Agreement.{Agree, Visible, Open}

-- Two answers cannot be told apart: number and length are equal, and so are that many first bytes of the outputs.
pub record Alike (a b : Ran) : Type 0 where
  pub outcome : a.outcome ≡ b.outcome
  pub bytes : take (length_of a.outcome) a.output ≡ take (length_of a.outcome) b.output

-- With one language, root, card and output length, two legal plans within the levels that agree outside hidden blocks are
-- answered alike: masked bytes, length and refusal of short output.
abbrev pub HiddenStaysHidden : Type 0
HiddenStaysHidden =
    (language : List ℕ) (root : ℕ) (card first second o p : List ℕ) (l : Language) (c : Card) (s t : Code)
    → language_of language ≡ value l → card_of card ≡ value c → tree_of l root first ≡ value s → tree_of l root second ≡ value t
    → Agree l c root s t → length o ≡ length p
    → Alike (mask_tree language root card first o) (mask_tree language root card second p)

-- The bytes v stand in the bytes u.
pub record StandsIn (v u : List ℕ) : Type 0 where
  pub front : List ℕ
  pub back : List ℕ
  pub is : u ≡ front ++ (v ++ back)

-- Every visible block is shown: its masked bytes stand in those of the plan. They are its own bytes where nothing in it is
-- hidden, as in a token.
abbrev pub VisibleIsShown : Type 0
VisibleIsShown =
    (l : Language) (c : Card) (root : ℕ) (plan : Code) (kind : ℕ) (block : Code) → Visible l c kind block root plan
    → StandsIn (masked l c kind block) (masked l c root plan) × (Open l c kind block → masked l c kind block ≡ write tree block)

-- And nothing but hidden blocks is lost: legal plans of one kind whose masked bytes are equal agree outside hidden blocks.
abbrev pub MaskTellsTheRest : Type 0
MaskTellsTheRest =
    (language : List ℕ) (root : ℕ) (first second : List ℕ) (l : Language) (c : Card) (s t : Code)
    → language_of language ≡ value l → tree_of l root first ≡ value s → tree_of l root second ≡ value t
    → masked l c root s ≡ masked l c root t → Agree l c root s t
