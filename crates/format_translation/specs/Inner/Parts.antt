-- Where the parts of a translation stand in its bytes.
use Rattle.std.specs.Prelude.{ℕ, ◌+◌, ◌≤◌, ◌≡◌, false, List, length, drop}
use Rattle.std.proofs.Math.Option.{some}
use Rattle.std.proofs.Math.Seq.{slice}
use Rattle.format_fields.specs.Fields.{has_over}
use Rattle.format_fields.specs.Inner.Places.{field_end}
use Rattle.format_language.specs.LanguageFile.{entries_of}
use Rattle.format_translation.specs.Translation.{Translation}
use Rattle.format_translation.specs.TranslationFile.{body_of, is_language_tag}

-- The source's field ends at a, the target's at b, and the body follows; both are within a limit that no field says to exceed.
pub record Parted (s : List ℕ) (a b : ℕ) (f : Translation) : Type 0 where
  pub source_past : 3 ≤ a
  pub target_past : a + 3 ≤ b
  pub inside : b ≤ length s
  pub source : entries_of (slice 3 a s) ≡ some f.source
  pub target : entries_of (slice (a + 3) b s) ≡ some f.target
  pub body : body_of (drop b s) ≡ some f.body
  pub short : (limit : ℕ) → has_over is_language_tag limit s ≡ false → (length (slice 3 a s) ≤ limit) × (length (slice (a + 3) b s) ≤ limit)

-- The bytes of a translation's source, of its target and of its body, by its first two fields.
unfoldable pub source_in : List ℕ → List ℕ
source_in s = slice 3 (field_end s 0) s

unfoldable pub target_in : List ℕ → List ℕ
target_in s = slice (field_end s 0 + 3) (field_end s (field_end s 0)) s

unfoldable pub body_in : List ℕ → List ℕ
body_in s = drop (field_end s (field_end s 0)) s
