-- A translation by the bytes of its parts.
use Rattle.std.specs.Prelude.{ℕ, ◌≡◌, List, map}
use Rattle.outcome.specs.Outcome.{value}
use Rattle.format_fields.specs.Fields.{encode_fields}
use Rattle.format_language.specs.LanguageFile.{encode_language}
use Rattle.format_translation.specs.Translation.{Translation}
use Rattle.reduce_operators.specs.declared.parts.Parts.{Parts}
use Rattle.format_translation.specs.TranslationFile.{item_field, encode_translation, translation_of}

-- The bytes s, t and b are those of the source, the target and the body of f, and a file that holds f is accepted.
pub record EncodedParts (s t b : List ℕ) (f : Translation) : Type 0 where
  pub source : s ≡ encode_language f.source
  pub target : t ≡ encode_language f.target
  pub body : b ≡ encode_fields (map item_field f.body)
  pub accepted : translation_of (encode_translation f) ≡ value f

-- The same of the parts that are lent.
abbrev pub HasParts : Parts → Translation → Type 0
HasParts parts f = EncodedParts parts.source.now parts.target.now parts.body.now f
