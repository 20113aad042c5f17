-- The three parts of a translation, each in its own bytes, and where they are found.
use Rattle.std.specs.Prelude.{ℕ, ◌≤◌, ◌≡◌, cond, ◌&&◌, List, length, eqb}
use Rattle.std.proofs.Math.Option.{some}
use Rattle.format_fields.specs.Fields.{byte_at}
use Rattle.format_fields.specs.Inner.Places.{field_end, is_whole}
use Rattle.format_language.specs.LanguageFile.{entries_of}
use Rattle.format_translation.specs.Translation.{Translation}
use Rattle.format_translation.specs.TranslationFile.{body_of}

-- Where the whole field of this tag at p ends, or 0 where there is none.
unfoldable pub part_end : ℕ → List ℕ → ℕ → ℕ
part_end tag s p = cond (eqb (byte_at s p) tag && is_whole s p) (field_end s p) 0

-- The bytes s, t and b hold the source, the target and the body of f, within the limits.
pub record Pieces (s t b : List ℕ) (f : Translation) : Type 0 where
  pub source : entries_of s ≡ some f.source
  pub target : entries_of t ≡ some f.target
  pub body : body_of b ≡ some f.body
  pub source_short : length s ≤ 1024
  pub target_short : length t ≤ 1024
  pub body_short : length b ≤ 32768
