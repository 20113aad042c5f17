-- The index of a language: for the key of an entry the place of its field in the language's bytes, and one more; 0
-- where there is no such entry. A class of kind k is at k, production r.p at 32 + (r * 256 + p).
use Rattle.std.specs.Prelude.{ℕ, zero, suc, ◌+◌, ◌-◌, ◌<◌, ◌≤◌, ◌≡◌, cond, List, [], ◌∷◌, length, get_or, set, eqb}
use Rattle.std.proofs.Math.Option.{Option, none, some}
use Rattle.std.proofs.Math.Seq.{slice}
use Rattle.format_fields.specs.Fields.{pair_at}
use Rattle.format_fields.specs.Inner.Places.{field_end, places, slot_at}
use Rattle.format_language.specs.Language.{Language, Range, range_of, arguments_of, kind_key, production_key}
use Rattle.format_language.specs.LanguageFile.{entries_of}
use Rattle.format_language.specs.Inner.Entries.{class_range, IsClass}
use Rattle.tree_reader.specs.Inner.Positions.{KindsIn}

-- How many numbers an index has: one for each kind, and one for each production.
abbrev pub index_length : ℕ
index_length = 8224

-- How many numbers the table of a run has.
abbrev pub table_length : ℕ
table_length = 26184

-- The range in the field before `place`.
abbrev pub range_before : List ℕ → ℕ → Option Range
range_before s zero = none
range_before s (suc p) = some (class_range s p)

-- The argument kinds in the field before `place`.
abbrev pub arguments_before : List ℕ → ℕ → Option (List ℕ)
arguments_before s zero = none
arguments_before s (suc p) = some (slice (p + 5) (field_end s p) s)

-- The index with a value at a key that has none yet.
unfoldable pub put_at : List ℕ → ℕ → ℕ → List ℕ
put_at index key v = cond (eqb (get_or index key 0) 0) (set index key v) index

-- The index with the entries at places put in, one after the other. The first entries have the tag `first`.
unfoldable pub put_all : ℕ → List ℕ → List ℕ → List ℕ → List ℕ
put_all first s index [] = index
put_all first s index (p ∷ l) = put_all first s (put_at index (slot_at first s p) (p + 1)) l

-- The index of s stands in a table t from a on, which was all zero there. The first entries of s have the tag `first`.
pub record Built (first : ℕ) (s t : List ℕ) (a : ℕ) : Type 0 where
  pub zeros : List ℕ
  pub long : length zeros ≡ index_length
  pub zero : (j : ℕ) → get_or zeros j 0 ≡ 0
  pub is : (j : ℕ) → j < index_length → get_or t (a + j) 0 ≡ get_or (put_all first s zeros (places s)) j 0

-- The table u is t but from a up to e.
pub record Around (t u : List ℕ) (a e : ℕ) : Type 0 where
  pub long : length u ≡ length t
  pub below : (j : ℕ) → j < a → get_or u j 0 ≡ get_or t j 0
  pub past : (j : ℕ) → e ≤ j → get_or u j 0 ≡ get_or t j 0

-- What a lookup may rely on: each place is that of a whole field.
pub record Sound (index s : List ℕ) : Type 0 where
  pub long : index_length ≤ length index
  pub short : length s ≤ 1024
  pub class : (k : ℕ) → k < 32 → 0 < get_or index (kind_key k) 0 → IsClass s (get_or index (kind_key k) 0 - 1)
  pub name : (k p : ℕ) → k < 32 → p < 256 → 0 < get_or index (production_key k p) 0
      → get_or index (production_key k p) 0 + 4 ≤ length s
  pub operands : (k p : ℕ) → k < 32 → p < 256 → 0 < get_or index (production_key k p) 0
      → KindsIn s (get_or index (production_key k p) 0 + 4) (get_or index (production_key k p) 0 + 2 + pair_at s (get_or index (production_key k p) 0))

-- What reading a code of kind k at `at` asks: a sound index, a kind, a position in the bytes or at their end.
pub record Ready (index s : List ℕ) (k : ℕ) (b : List ℕ) (at : ℕ) : Type 0 where
  pub sound : Sound index s
  pub kind : k < 32
  pub inside : at ≤ length b

-- The index of language l, whose bytes are s: what is looked up through it is what stands in l.
pub record Indexed (index s : List ℕ) (l : Language) : Type 0 where
  pub sound : Sound index s
  pub entries : entries_of s ≡ some l
  pub range : (k : ℕ) → k < 32 → range_of l k ≡ range_before s (get_or index (kind_key k) 0)
  pub arguments : (k p : ℕ) → k < 32 → p < 256
      → arguments_of l k p ≡ arguments_before s (get_or index (production_key k p) 0)
