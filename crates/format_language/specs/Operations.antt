-- The operation on languages (paper 01, "Operations and their refusals").
use Rattle.std.specs.Prelude.{ℕ, List}
use Rattle.outcome.specs.Outcome.{checked, Outcome}
use Rattle.format_language.specs.LanguageFile.{language_of}

-- Check a language: 1 to 4.
unfoldable pub check_language : List ℕ → Outcome
check_language language = checked (language_of language)
