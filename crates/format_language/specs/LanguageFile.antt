-- A language in bytes (paper 01, "Languages", fields 11 and 12; paper 02, 2026-10, steps).
use Rattle.std.specs.Prelude.{ℕ, Bool, cond, not, ◌&&◌, ◌||◌, length, drop, ltb, leb, eqb}
use mathlib.Core.List.{List, [], ◌∷◌, ◌++◌}
use Rattle.std.proofs.Math.Option.{Option, none, some}
use Rattle.outcome.specs.Outcome.{Result, value, refused, refuse_if, ◌>>=◌}
use Rattle.outcome.specs.declared.Reason.TheVariants.{TooLong, BrokenField, OutOfOrder, ClassIsResult}
use Rattle.format_fields.specs.Lists.{all}
use Rattle.format_fields.specs.Fields.{Field, field, byte_at, pair_at, two_bytes, fields_of, decoded_in, encode_fields}
use Rattle.format_fields.specs.Keyed.{rising}
use Rattle.format_language.specs.Language.{Range, range, Entry, class, production, Language, entry_key, clashes}

-- A kind is a number 0 to 31.
abbrev pub is_kind : ℕ → Bool
is_kind k = ltb k 32

-- A range that a file can hold: low is at most high, and the step is not 0.
unfoldable pub range_whole : Range → Bool
range_whole c = leb c.low c.high && ltb 0 c.step

-- The range in the contents of field 11: low, high and, in length 7, the step; length 5 reads as step 1.
unfoldable pub range_in : List ℕ → Range
range_in c = range (pair_at c 1) (pair_at c 3) (cond (eqb (length c) 7) (pair_at c 5) 1)

-- Field 11, token class, length 5 or 7: kind, low, high, step.
unfoldable pub class_of : List ℕ → Option Entry
class_of c =
    cond ((eqb (length c) 5 || eqb (length c) 7) && (is_kind (byte_at c 0) && range_whole (range_in c)))
    (some (class (byte_at c 0) (range_in c)))
    none

-- Field 12, production, length 2 to 10: result, name, arguments.
unfoldable pub production_of : List ℕ → Option Entry
production_of c =
    cond (leb 2 (length c) && (leb (length c) 10 && (is_kind (byte_at c 0) && all is_kind (drop 2 c))))
    (some (production (byte_at c 0) (byte_at c 1) (drop 2 c)))
    none

-- The entry of a field, by its tag.
unfoldable pub entry_of : Field → Option Entry
entry_of (field tag c) = cond (eqb tag 0x11) (class_of c) (cond (eqb tag 0x12) (production_of c) none)

-- A step in bytes: step 1 is not written.
unfoldable pub step_bytes : ℕ → List ℕ
step_bytes step = cond (eqb step 1) [] (two_bytes step)

-- The field of an entry. A class of step 1 is written in length 5.
unfoldable pub entry_field : Entry → Field
entry_field (class k c) = field 0x11 (k ∷ (two_bytes c.low ++ (two_bytes c.high ++ step_bytes c.step)))
entry_field (production r p arguments) = field 0x12 (r ∷ p ∷ arguments)

-- The entries of a file: none where a field is broken.
unfoldable pub entries_of : List ℕ → Option Language
entries_of s = decoded_in entry_of (fields_of s)

-- The bytes of a language.
unfoldable pub encode_language : Language → List ℕ
encode_language l = encode_fields (mathlib.Core.List.map entry_field l)

-- At most 1,024 bytes.
abbrev pub language_limit : ℕ
language_limit = 1024

-- What is asked of the entries of a file, or the refusal BrokenField where they are none.
abbrev pub whole : {A : Type 0} → Option A → Result A
whole none = refused BrokenField
whole (some a) = value a

-- The language that a file holds: 1, 2, 3 or 4, the lowest, where it holds none.
unfoldable pub language_of : List ℕ → Result Language
language_of s =
    refuse_if (ltb language_limit (length s)) TooLong
    (whole (entries_of s) >>= λ l.
    refuse_if (not (rising entry_key l)) OutOfOrder
    (refuse_if (clashes l l) ClassIsResult
    (value l)))
