-- What the operators on bytes give: the bytes of a value at the start of a lent buffer, or why there is none.
use Rattle.std.specs.Prelude.{ℕ, ◌≤◌, ◌≡◌, not, List, length, take}
use Rattle.outcome.specs.Outcome.{Result, value, refuse_if, ◌>>=◌, written, Outcome}
use Rattle.outcome.specs.declared.Reason.TheVariants.{BrokenField, ValueTooLarge}
use Rattle.format_fields.specs.Lists.{same_numbers}
use Rattle.format_language.specs.Language.{Language}
use Rattle.format_language.specs.LanguageFile.{encode_language, language_of}
use Rattle.format_translation.specs.Translation.{Translation}
use Rattle.format_translation.specs.TranslationFile.{encode_translation, translation_of}
use Rattle.reduce_operators.specs.Limits.{language_exceeds, translation_exceeds}

-- The value of bytes that are just those that it is written in. (A file may hold it in others: with a step of 1 written.)
abbrev pub as_written : {A : Type 0} → (A → List ℕ) → List ℕ → Result A → Result A
as_written encode s r = r >>= λ a. refuse_if (not (same_numbers s (encode a))) BrokenField (value a)

-- The language whose own bytes these are.
unfoldable pub exact_language : List ℕ → Result Language
exact_language s = as_written encode_language s (language_of s)

-- The translation whose own bytes these are.
unfoldable pub exact_translation : List ℕ → Result Translation
exact_translation s = as_written encode_translation s (translation_of s)

-- The bytes of a language, or 11 where it exceeds a limit.
abbrev pub language_bytes : Result Language → Result (List ℕ)
language_bytes r = r >>= λ l. refuse_if (language_exceeds l) ValueTooLarge (value (encode_language l))

-- The bytes of a translation, or 11 where it exceeds a limit.
abbrev pub translation_bytes : Result Translation → Result (List ℕ)
translation_bytes r = r >>= λ f. refuse_if (translation_exceeds f) ValueTooLarge (value (encode_translation f))

-- The bytes v stand at the start of what the buffer o has become, and the answer r says how many; or it says why not.
pub record Gives (v : Result (List ℕ)) (o after : List ℕ) (r : Outcome) : Type 0 where
  pub outcome : r ≡ written v
  pub long : length after ≡ length o
  pub bytes : (b : List ℕ) → v ≡ value b → (length b ≤ length o) × (take (length b) after ≡ b)
