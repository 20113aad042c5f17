-- What is written for each field of a file, in a walk over them.
use Rattle.std.specs.Prelude.{ℕ, ◌≤◌, ◌≡◌, cond, List, [], map, length}
use Rattle.outcome.specs.Outcome.{value}
use Rattle.format_fields.specs.Lists.{concat_map}
use Rattle.format_fields.specs.Fields.{encode_fields}
use Rattle.format_fields.specs.Inner.Places.{places_from}
use Rattle.format_language.specs.Language.{Language}
use Rattle.format_language.specs.LanguageFile.{encode_language}
use Rattle.format_translation.specs.Translation.{Translation}
use Rattle.format_translation.specs.TranslationFile.{item_field, encode_translation, translation_of}
use Rattle.format_translation.specs.Inner.Items.{item_at}
use Rattle.reduce_operators.specs.Operators.{is_of, language_without}
use Rattle.reduce_merge.specs.Inner.Parts.{piece_at}

-- What is written for the fields from p on, one after the other.
unfoldable pub written_from : (ℕ → List ℕ) → List ℕ → ℕ → List ℕ
written_from piece s p = concat_map piece (places_from s p)

-- The field at q, where its item is still of the language.
abbrev pub staying_at : Language → List ℕ → ℕ → List ℕ
staying_at l s q = cond (is_of l (item_at s q)) (piece_at s q) []

-- The bytes s are those of the source of f without m, t and b those of the target and the body of f, and a file that
-- holds f is accepted.
pub record Left (s t b : List ℕ) (f : Translation) (m : Language) : Type 0 where
  pub source : s ≡ encode_language (language_without f.source m)
  pub target : t ≡ encode_language f.target
  pub body : b ≡ encode_fields (map item_field f.body)
  pub accepted : translation_of (encode_translation f) ≡ value f
  pub short : length s ≤ 1024
