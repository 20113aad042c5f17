-- The index of a body, in the form of a language's: for the key of an item of number 0 the place of its field in the body's
-- bytes, and one more; 0 where there is no such item. Beside it the table of what kinds map to by number.
use Rattle.std.specs.Prelude.{ℕ, zero, suc, ◌+◌, ◌-◌, ◌*◌, ◌<◌, ◌≤◌, ◌≡◌, Bool, true, cond, not, List, length, get_or, eqb}
use Rattle.std.proofs.Math.Option.{Option, none, some}
use Rattle.std.proofs.Math.Seq.{slice}
use Rattle.format_fields.specs.Fields.{byte_at, pair_at}
use Rattle.format_fields.specs.Inner.Places.{field_end, key_at}
use Rattle.format_language.specs.Language.{kind_key, production_key}
use Rattle.format_translation.specs.Translation.{Body, mapping_of, clause_of}
use Rattle.format_translation.specs.TranslationFile.{body_of}
use Rattle.tree_reader.specs.Inner.Index.{index_length}
use Rattle.tree_reader.specs.Inner.Positions.{mapped_in}

-- The target kind in the field before `place`.
abbrev pub target_before : List ℕ → ℕ → Option ℕ
target_before s zero = none
target_before s (suc p) = some (byte_at s (p + 4))

-- The code in the field before `place`.
abbrev pub code_before : List ℕ → ℕ → Option (List ℕ)
code_before s zero = none
code_before s (suc p) = some (slice (p + 5) (field_end s p) s)

-- What a lookup may rely on: each place is that of a whole field.
pub record SoundItems (index s : List ℕ) : Type 0 where
  pub long : length index ≡ index_length
  pub short : length s ≤ 32768
  pub target : (k : ℕ) → k < 32 → 0 < get_or index (kind_key k) 0
      → (get_or index (kind_key k) 0 + 3 < length s) × (byte_at s (get_or index (kind_key k) 0 + 3) < 32)
  pub code : (k p : ℕ) → k < 32 → p < 256 → 0 < get_or index (production_key k p) 0
      → (2 ≤ pair_at s (get_or index (production_key k p) 0))
      × (get_or index (production_key k p) 0 + 2 + pair_at s (get_or index (production_key k p) 0) ≤ length s)

-- The index of body b, whose bytes are s: what is looked up through it is what stands in b.
pub record IndexedItems (index s : List ℕ) (b : Body) : Type 0 where
  pub sound : SoundItems index s
  pub items : body_of s ≡ some b
  pub mapping : (k : ℕ) → k < 32 → mapping_of b k 0 ≡ target_before s (get_or index (kind_key k) 0)
  pub clause : (k p : ℕ) → k < 32 → p < 256 → clause_of b k p 0 ≡ code_before s (get_or index (production_key k p) 0)

-- The table of what kinds map to by number, of body b.
pub record Mapped (uses : List ℕ) (b : Body) : Type 0 where
  pub is : (k j : ℕ) → k < 32 → j < 256 → mapped_in uses k j ≡ mapping_of b k j

-- The kind that kind k maps to by number j, by such a table; 0 where it is not mapped.
unfoldable pub mapped_by : List ℕ → ℕ → ℕ → ℕ
mapped_by uses k j = get_or uses (k * 256 + j) 0 - 1

-- The kind that kind k maps to by number 0, looked up; 0 where it is not mapped.
unfoldable pub mapped_at : List ℕ → List ℕ → ℕ → ℕ
mapped_at s index k = cond (eqb (get_or index k 0) 0) 0 (byte_at s (get_or index k 0 + 3))

-- The entry at p is of the first tag, or its key stands in the index.
unfoldable pub known_at : ℕ → List ℕ → List ℕ → ℕ → Bool
known_at first s index p = cond (eqb (byte_at s p) first) true (not (eqb (get_or index (key_at first s p) 0) 0))
