-- The field format (paper 01, "Languages", house fields): one tag byte, two bytes of length, contents.
-- Numbers of two bytes have the high byte first.
use Rattle.std.specs.Prelude.{ℕ, zero, suc, ◌+◌, ◌*◌, ◌/◌, ◌%◌, Bool, true, false, ◌&&◌, List, [], ◌∷◌, ◌++◌, length, get_or, take, drop, ltb, leb}
use Rattle.std.proofs.Math.Option.{Option, none, some}
use Rattle.format_fields.specs.Lists.{before, concat_map, traverse}

-- A field: its tag and its contents.
pub data Field : Type 0 where
  field : (tag : ℕ) (contents : List ℕ) → Field

-- The byte at i.
abbrev pub byte_at : List ℕ → ℕ → ℕ
byte_at s i = get_or s i 0

-- The number in the two bytes at i.
unfoldable pub pair_at : List ℕ → ℕ → ℕ
pair_at s i = byte_at s i * 256 + byte_at s (i + 1)

-- A number in two bytes.
abbrev pub two_bytes : ℕ → List ℕ
two_bytes n = n / 256 ∷ n % 256 ∷ []

-- The bytes of a field.
unfoldable pub encode_field : Field → List ℕ
encode_field (field tag contents) = tag ∷ (two_bytes (length contents) ++ contents)

-- The bytes of fields, one after the other.
unfoldable pub encode_fields : List Field → List ℕ
encode_fields = concat_map encode_field

-- The fields that a file is made of, or none where one is not whole. The fuel is more than the bytes.
unfoldable pub split_fields : ℕ → List ℕ → Option (List Field)
split_fields zero s = none
split_fields (suc fuel) [] = some []
split_fields (suc fuel) (tag ∷ r) =
    elim (leb (2 + pair_at r 0) (length r)) [
      | true ↦ before (some (field tag (take (pair_at r 0) (drop 2 r)))) (split_fields fuel (drop (2 + pair_at r 0) r))
      | false ↦ none
    ]

-- The same, with fuel for all bytes.
unfoldable pub fields_of : List ℕ → Option (List Field)
fields_of s = split_fields (suc (length s)) s

-- What a decoder gives for each of the fields, where the fields are there and it gives something for each.
abbrev pub decoded_in : {A : Type 0} → (Field → Option A) → Option (List Field) → Option (List A)
decoded_in decode none = none
decoded_in decode (some fs) = traverse decode fs

-- A field whose tag is of a language, reached over whole fields of any tag, says in its length bytes that it is
-- over the limit (paper 01, "Check a translation", last sentence). Its contents need not be whole.
unfoldable pub says_over : ℕ → (ℕ → Bool) → ℕ → List ℕ → Bool
says_over zero isLanguage limit s = false
says_over (suc fuel) isLanguage limit [] = false
says_over (suc fuel) isLanguage limit (tag ∷ r) =
    elim (leb 2 (length r)) [
      | false ↦ false
      | true ↦
          elim (isLanguage tag && ltb limit (pair_at r 0)) [
            | true ↦ true
            | false ↦
                elim (leb (2 + pair_at r 0) (length r)) [
                  | true ↦ says_over fuel isLanguage limit (drop (2 + pair_at r 0) r)
                  | false ↦ false
                ]
          ]
    ]

-- The same, with fuel for all bytes.
unfoldable pub has_over : (ℕ → Bool) → ℕ → List ℕ → Bool
has_over isLanguage limit s = says_over (suc (length s)) isLanguage limit s
