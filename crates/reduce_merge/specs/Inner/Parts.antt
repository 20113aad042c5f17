-- The fields of a language, or of a body, as keys and bytes: what the operators on bytes do with them.
-- `proofs/Encoded.antt` shows what this comes to for languages and for bodies.
use Rattle.std.specs.Prelude.{ℕ, ◌+◌, ◌<◌, ◌≤◌, ◌≡◌, Bool, true, false, cond, not, ◌&&◌, ◌||◌, List, [], ◌∷◌, ◌++◌, map, length, take, ltb, leb, eqb}
use Rattle.std.proofs.Math.Seq.{slice}
use Rattle.format_fields.specs.Lists.{all, concat_map, same_numbers}
use Rattle.format_fields.specs.Keyed.{rising, union, without, within, agree}
use Rattle.format_fields.specs.Inner.Places.{field_end, is_whole, long_at, places_from, order_at}
use Rattle.format_language.specs.Language.{range_within}
use Rattle.format_language.specs.Inner.Entries.{entry_whole, class_range, results_meet}

-- A field: its key, and all its bytes.
pub record Part : Type 0 where
  pub key : ℕ
  pub bytes : List ℕ

abbrev pub part_key : Part → ℕ
part_key a = a.key

-- Two fields have one key.
unfoldable pub same_key : Part → Part → Bool
same_key a b = eqb a.key b.key

-- Two fields are the same, byte for byte.
unfoldable pub same_part : Part → Part → Bool
same_part a b = eqb a.key b.key && same_numbers a.bytes b.bytes

-- The bytes of fields, one after the other.
unfoldable pub bytes_of : List Part → List ℕ
bytes_of = concat_map (λ a. a.bytes)

-- The bytes of the field at p.
abbrev pub piece_at : List ℕ → ℕ → List ℕ
piece_at s p = slice p (field_end s p) s

-- The field at p, where `leading` is the tag of the fields that come first.
unfoldable pub part_at : ℕ → List ℕ → ℕ → Part
part_at leading s p = record { key = order_at leading s p; bytes = piece_at s p }

-- The fields from p on, and all fields.
unfoldable pub parts_from : ℕ → List ℕ → ℕ → List Part
parts_from leading s p = map (part_at leading s) (places_from s p)

abbrev pub parts : ℕ → List ℕ → List Part
parts leading s = parts_from leading s 0

-- There is a whole field at p, and its key is in its first five bytes.
pub record WholeAt (s : List ℕ) (p : ℕ) : Type 0 where
  pub long : p + 4 < length s
  pub fits : field_end s p ≤ length s

-- p is in the file, and from p on there are such fields.
pub record WholeFrom (s : List ℕ) (p : ℕ) : Type 0 where
  pub inside : p ≤ length s
  pub long : all (long_at s) (places_from s p) ≡ true
  pub whole : all (is_whole s) (places_from s p) ≡ true

-- The file is such fields, and their keys rise.
pub record Sorted (leading : ℕ) (s : List ℕ) : Type 0 where
  pub long : all (long_at s) (places_from s 0) ≡ true
  pub whole : all (is_whole s) (places_from s 0) ≡ true
  pub rises : rising part_key (parts leading s) ≡ true

-- The fields with a key below k that come first, and what comes after them.
unfoldable pub lower : ℕ → List Part → List Part
lower k [] = []
lower k (a ∷ l) = cond (ltb a.key k) (a ∷ lower k l) []

unfoldable pub seek : ℕ → List Part → List Part
seek k [] = []
seek k (a ∷ l) = cond (ltb a.key k) (seek k l) (a ∷ l)

-- r is where the first field from p on stands whose key is k or more, or the end of the file.
pub record SoughtAt (leading : ℕ) (s : List ℕ) (p k r : ℕ) : Type 0 where
  pub rest : parts_from leading s r ≡ seek k (parts_from leading s p)
  pub skipped : slice p r s ≡ bytes_of (lower k (parts_from leading s p))
  pub past : p ≤ r
  pub from : WholeFrom s r

-- The first n bytes are the same in both files.
pub record Alike (a b : List ℕ) (n : ℕ) : Type 0 where
  pub left : n ≤ length a
  pub right : n ≤ length b
  pub same : take n a ≡ take n b

-- Both files begin with the same fields, and the last of them ends at r.
pub record Shared (leading : ℕ) (a b : List ℕ) (r : ℕ) : Type 0 where
  pub fields : List Part
  pub left : parts leading a ≡ fields ++ parts_from leading a r
  pub right : parts leading b ≡ fields ++ parts_from leading b r
  pub bytes : slice 0 r a ≡ bytes_of fields
  pub left_from : WholeFrom a r
  pub right_from : WholeFrom b r

-- The first field lies in the second, in languages: keys below 32 are those of classes, which are compared by their
-- ranges; productions are compared byte for byte.
unfoldable pub part_within : Part → Part → Bool
part_within a b =
    eqb a.key b.key
    && cond (ltb a.key 32) (range_within (class_range a.bytes 0) (class_range b.bytes 0)) (same_numbers a.bytes b.bytes)

-- A field whose key is below 32 is a whole class.
unfoldable pub class_part : Part → Bool
class_part a = leb 32 a.key || entry_whole a.bytes 0

-- The file is the entries of a language, and their keys rise.
pub record SortedEntries (s : List ℕ) : Type 0 where
  pub sorted : Sorted 0x11 s
  pub classes : all class_part (parts 0x11 s) ≡ true

-- The list begins with a field to which this one stands by the test.
abbrev pub leads : (Part → Part → Bool) → Part → List Part → Bool
leads alike a [] = false
leads alike a (b ∷ l) = alike a b

-- Two fields of one key that are not the same.
unfoldable pub parts_clash : Part → Part → Bool
parts_clash a b = eqb a.key b.key && not (same_numbers a.bytes b.bytes)

-- The union of two files, by key.
unfoldable pub united : ℕ → List ℕ → List ℕ → List ℕ
united leading a b = bytes_of (union part_key (parts leading a) (parts leading b))

-- The first file without the fields of the second.
unfoldable pub removed : ℕ → List ℕ → List ℕ → List ℕ
removed leading a b = bytes_of (without same_part (parts leading a) (parts leading b))

-- Every entry of the first file lies in one of the second.
unfoldable pub lies_within : List ℕ → List ℕ → Bool
lies_within a b = within part_within (parts 0x11 a) (parts 0x11 b)

-- Fields of one key are the same in both files.
unfoldable pub agrees : ℕ → List ℕ → List ℕ → Bool
agrees leading a b = agree part_key same_part (parts leading a) (parts leading b)

-- Two languages fit together: no class of one is a result of the other, and entries of one key are the same.
unfoldable pub fit_together : List ℕ → List ℕ → Bool
fit_together a b = not (results_meet a b) && (not (results_meet b a) && agrees 0x11 a b)
