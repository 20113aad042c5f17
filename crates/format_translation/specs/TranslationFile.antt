-- A translation in bytes (paper 01, "Translations", fields 20 to 23; "Check a translation"; fields 28 and 29, paper 02,
-- 2026-13).
use Rattle.std.specs.Prelude.{ℕ, zero, suc, Bool, true, false, cond, not, ◌&&◌, ◌||◌, List, [], ◌∷◌, map, length, drop, ltb, leb, eqb}
use Rattle.std.proofs.Math.Option.{Option, none, some}
use Rattle.outcome.specs.Outcome.{Result, refuse_if, ◌>>=◌}
use Rattle.outcome.specs.declared.Reason.TheVariants.{TooLong, OutOfOrder, ClassIsResult}
use Rattle.format_fields.specs.Lists.{traverse}
use Rattle.format_fields.specs.Fields.{Field, field, byte_at, fields_of, encode_fields, has_over}
use Rattle.format_fields.specs.Keyed.{rising}
use Rattle.format_language.specs.Language.{Language, entry_key, clashes}
use Rattle.format_language.specs.LanguageFile.{is_kind, entries_of, encode_language, language_limit, whole}
use Rattle.format_translation.specs.Translation.{Item, mapping, clause, Body, Translation, item_key}
use Rattle.format_translation.specs.WellFormed.{well_formed}

-- Field 22, length 2: source kind, target kind; its number is 0.
unfoldable pub mapping_field : List ℕ → Option Item
mapping_field c =
    cond (eqb (length c) 2 && (is_kind (byte_at c 0) && is_kind (byte_at c 1)))
    (some (mapping (byte_at c 0) 0 (byte_at c 1)))
    none

-- A number that is written: 1 to 255.
abbrev pub is_number : ℕ → Bool
is_number n = ltb 0 n && ltb n 256

-- Field 28, length 3: source kind, number, which is not 0, target kind.
unfoldable pub numbered_mapping : List ℕ → Option Item
numbered_mapping c =
    cond (eqb (length c) 3 && (is_kind (byte_at c 0) && (is_number (byte_at c 1) && is_kind (byte_at c 2))))
    (some (mapping (byte_at c 0) (byte_at c 1) (byte_at c 2)))
    none

-- Field 23, length 2 or more: result, name, code; its number is 0.
unfoldable pub clause_field : List ℕ → Option Item
clause_field c = cond (leb 2 (length c) && is_kind (byte_at c 0)) (some (clause (byte_at c 0) (byte_at c 1) 0 (drop 2 c))) none

-- Field 29, length 3 or more: result, name, number, which is not 0, code.
unfoldable pub numbered_clause : List ℕ → Option Item
numbered_clause c =
    cond (leb 3 (length c) && (is_kind (byte_at c 0) && is_number (byte_at c 2)))
    (some (clause (byte_at c 0) (byte_at c 1) (byte_at c 2) (drop 3 c)))
    none

-- The item of a field, by its tag.
unfoldable pub item_of : Field → Option Item
item_of (field tag c) =
    cond (eqb tag 0x22) (mapping_field c)
    (cond (eqb tag 0x23) (clause_field c)
    (cond (eqb tag 0x28) (numbered_mapping c)
    (cond (eqb tag 0x29) (numbered_clause c) none)))

-- The field of an item: number 0 is not written.
unfoldable pub item_field : Item → Field
item_field (mapping s zero t) = field 0x22 (s ∷ t ∷ [])
item_field (mapping s (suc j) t) = field 0x28 (s ∷ suc j ∷ t ∷ [])
item_field (clause r p zero code) = field 0x23 (r ∷ p ∷ code)
item_field (clause r p (suc j) code) = field 0x29 (r ∷ p ∷ suc j ∷ code)

-- An item is a clause.
abbrev pub is_clause : Item → Bool
is_clause (mapping s j t) = false
is_clause (clause r p j code) = true

-- The items stand in their groups, no mapping after a clause; the first argument says whether a clause has come.
unfoldable pub grouped : Bool → List Item → Bool
grouped past [] = true
grouped past (a ∷ l) = (is_clause a || not past) && grouped (is_clause a) l

-- A body, where its items stand in their groups.
abbrev pub in_groups : Option Body → Option Body
in_groups none = none
in_groups (some b) = cond (grouped false b) (some b) none

-- The items of fields 22 and 28, then fields 23 and 29: none where a field is broken or stands in the wrong group.
unfoldable pub items_in : List Field → Option Body
items_in fs = in_groups (traverse item_of fs)

-- The same, where the fields are there.
abbrev pub body_in : Option (List Field) → Option Body
body_in none = none
body_in (some fs) = items_in fs

-- A body in bytes, as a pack holds it.
unfoldable pub body_of : List ℕ → Option Body
body_of s = body_in (fields_of s)

-- The parts of a translation, where all are there.
abbrev pub parts : Option Language → Option Language → Option Body → Option Translation
parts none t b = none
parts (some s) none b = none
parts (some s) (some t) none = none
parts (some s) (some t) (some b) = some (record { source = s; target = t; body = b })

-- Field 20, field 21, then the body's fields, and nothing else.
unfoldable pub parts_in : List Field → Option Translation
parts_in [] = none
parts_in (f ∷ []) = none
parts_in (field x s ∷ field y t ∷ fs) =
    cond (eqb x 0x20 && eqb y 0x21) (parts (entries_of s) (entries_of t) (items_in fs)) none

-- The same, where the fields are there.
abbrev pub parts_of_fields : Option (List Field) → Option Translation
parts_of_fields none = none
parts_of_fields (some fs) = parts_in fs

-- The parts of a file.
unfoldable pub parts_of : List ℕ → Option Translation
parts_of s = parts_of_fields (fields_of s)

-- The fields of a translation, and its bytes.
unfoldable pub translation_fields : Translation → List Field
translation_fields f =
    field 0x20 (encode_language f.source) ∷ field 0x21 (encode_language f.target) ∷ map item_field f.body

-- The bytes of a translation.
unfoldable pub encode_translation : Translation → List ℕ
encode_translation f = encode_fields (translation_fields f)

-- At most 4,096 bytes.
abbrev pub translation_limit : ℕ
translation_limit = 4096

-- The tags of the two languages in a translation.
abbrev pub is_language_tag : ℕ → Bool
is_language_tag tag = eqb tag 0x20 || eqb tag 0x21

-- All keys rise, in both languages and in the body.
unfoldable pub all_rising : Translation → Bool
all_rising f = rising entry_key f.source && (rising entry_key f.target && rising item_key f.body)

-- The translation that a file holds: 1 to 7, the lowest, where it holds none that is well formed.
unfoldable pub translation_of : List ℕ → Result Translation
translation_of s =
    refuse_if (ltb translation_limit (length s) || has_over is_language_tag language_limit s) TooLong
    (whole (parts_of s) >>= λ f.
    refuse_if (not (all_rising f)) OutOfOrder
    (refuse_if (clashes f.source f.source || clashes f.target f.target) ClassIsResult
    (well_formed f)))
