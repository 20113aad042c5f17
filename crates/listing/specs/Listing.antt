-- The listing program (paper 01, "Strap examples"): what it prints of a pack.
use Rattle.std.specs.Prelude.{ℕ, List, ◌++◌, length}
use Rattle.format_fields.specs.Lists.{concat_map}
use Rattle.outcome.specs.Outcome.{Result, value, refused, ◌>>=◌, reason_number}
use Rattle.format_translation.specs.Translation.{Translation}
use Rattle.format_translation.specs.TranslationFile.{encode_translation}
use Rattle.reduce_signs.specs.Evaluation.{constants_of, nothing_bound, evaluate}
use Rattle.reduce_operation.specs.Operations.{ready}
use Rattle.program_text.specs.Text.{accepted_word, refused_word, first_line}
use Rattle.listing.specs.Text.{item_line}

-- The translation that a pack is reduced to with a workspace of 65,536 and an output of 4,096 bytes, or why not:
-- reduce writes its bytes (`proofs/WholeText.antt`: `reduced_bytes`).
unfoldable pub reduced : List ℕ → Result Translation
reduced pack = ready pack 65536 4096 >>= λ r. evaluate (constants_of r.pack) nothing_bound r.term

-- `accepted` and the length of the translation, then its clauses; or `refused` and the number.
unfoldable pub text_of : Result Translation → List ℕ
text_of (value f) = first_line accepted_word (length (encode_translation f)) ++ concat_map item_line f.body
text_of (refused r) = first_line refused_word (reason_number r)

-- The text for a pack.
unfoldable pub listing : List ℕ → List ℕ
listing pack = text_of (reduced pack)
