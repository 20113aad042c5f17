-- What is delivered of what a term comes to.
use Rattle.std.specs.Prelude.{ℕ, List}
use Rattle.outcome.specs.Outcome.{Result, value, ◌>>=◌}
use Rattle.format_translation.specs.Translation.{Translation}
use Rattle.format_translation.specs.TranslationFile.{encode_translation}

-- The file of what a term comes to.
abbrev pub file_of : Result Translation → Result (List ℕ)
file_of o = o >>= λ f. value (encode_translation f)
