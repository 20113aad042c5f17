-- The text that is put for what the lookup hands back.
use Rattle.std.specs.Prelude.{ℕ, ◌+◌, ◌*◌, ◌≤◌, List, [], ◌∷◌, ◌++◌, length, Result, Ok, Err}
use Rattle.format_fields.specs.Lists.{concat_map}
use Rattle.outcome.specs.Outcome.{reason_number}
use Rattle.outcome.specs.declared.Reason.{Reason}
use Rattle.tree_block.specs.declared.show.Part.{Part}
use Rattle.program_text.specs.Text.{refused_word, pair_of, first_line}

-- A part in capitals, or the line of a refusal.
abbrev pub text_of : Result Part Reason → List ℕ
text_of (Ok part) = concat_map pair_of part.bytes.now ++ (10 ∷ [])
text_of (Err reason) = first_line refused_word (reason_number reason)

-- There is so much room for the text of a part.
abbrev pub Fitting : Result Part Reason → ℕ → Type 0
Fitting (Ok part) room = 2 * length part.bytes.now + 1 ≤ room
Fitting (Err reason) room = Unit {0}
