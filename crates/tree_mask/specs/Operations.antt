-- The operation that masks a tree (paper 02, 2026-12).
use Rattle.std.specs.Prelude.{ℕ, List, length}
use Rattle.outcome.specs.Outcome.{Result, ◌>>=◌, written, output_after}
use Rattle.format_language.specs.LanguageFile.{language_of}
use Rattle.tree_reader.specs.Operations.{tree_of}
use Rattle.format_translation.specs.Operations.{fitted, Ran}
use Rattle.format_card.specs.Card.{card_of, together}
use Rattle.tree_mask.specs.Mask.{masked}

-- Mask: the lowest of 1 to 4 for the language and the card, 14 to 16 for the whole tree, 17 by the masked length; then the
-- masked bytes.
unfoldable pub mask_bytes : (language : List ℕ) (root : ℕ) (card bytes : List ℕ) (room : ℕ) → Result (List ℕ)
mask_bytes language root card bytes room =
    together (language_of language) (card_of card) λ l c.
    tree_of l root bytes >>= λ t.
    fitted room (masked l c root t)

-- Mask, with the output as it is lent: number, length and bytes.
unfoldable pub mask_tree : (language : List ℕ) (root : ℕ) (card bytes output : List ℕ) → Ran
mask_tree language root card bytes output =
    let result = mask_bytes language root card bytes (length output) in
    record { outcome = written result; output = output_after output result }
