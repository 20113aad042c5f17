-- The display program (paper 02, 2026-06: "The boat display shows one block at a time"): what it prints of a plan.
use Rattle.std.specs.Prelude.{ℕ, List, [], ◌∷◌, ◌++◌, Err, Ok}
use Rattle.format_fields.specs.Lists.{concat_map}
use Rattle.outcome.specs.Outcome.{reason_number, Outcome}
use Rattle.tree_block.specs.Operations.{show_block}
use Rattle.program_text.specs.Text.{refused_word, pair_of, first_line}

-- The kind in the file of the root: its one byte. Any other file says no kind.
unfoldable pub root_in : List ℕ → ℕ
root_in [] = 255
root_in (k ∷ []) = k
root_in (k ∷ j ∷ s) = 255

-- The bytes of a block in capitals, or `refused` and the number.
abbrev pub shown_text : Outcome → List ℕ → List ℕ
shown_text (Ok n) bytes = concat_map pair_of bytes ++ (10 ∷ [])
shown_text (Err r) bytes = first_line refused_word (reason_number r)

-- The text for a language, a root, a plan with its index, and a path.
unfoldable pub display : (language root plan index path : List ℕ) → List ℕ
display language root plan index path =
    let d = show_block language (root_in root) plan index path in
    shown_text d.outcome d.bytes
