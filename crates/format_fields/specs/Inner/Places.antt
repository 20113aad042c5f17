-- The fields of a file by their places, as the code walks over them.
-- `proofs/Split.antt` shows that they are the fields of `fields_of`.
use Rattle.std.specs.Prelude.{ℕ, zero, suc, ◌+◌, ◌*◌, ◌<◌, ◌≤◌, ◌≡◌, Bool, true, false, cond, ◌&&◌, List, [], ◌∷◌, ◌++◌, length, take, drop, Option, Some, None, ltb, leb, eqb}
use Rattle.format_fields.specs.Lists.{all}
use Rattle.format_fields.specs.Fields.{Field, field, byte_at, pair_at}

-- Where the field at p ends, by its length bytes.
unfoldable pub field_end : List ℕ → ℕ → ℕ
field_end s p = p + 3 + pair_at s (p + 1)

-- What the code knows of the end e of the field at p.
pub record EndsAt (s : List ℕ) (p e : ℕ) : Type 0 where
  pub is : e ≡ field_end s p
  pub past : p + 3 ≤ e
  pub near : e < p + 65539

-- The field at p is whole.
unfoldable pub is_whole : List ℕ → ℕ → Bool
is_whole s p = leb (field_end s p) (length s)

-- The whole field at p ends at e.
pub record WholeEnd (s : List ℕ) (p e : ℕ) : Type 0 where
  pub is : e ≡ field_end s p
  pub past : p + 3 ≤ e
  pub fits : e ≤ length s

-- r is where the field at p ends if it is whole, and nothing if it is not.
pub record EndIfWhole (s : List ℕ) (p : ℕ) (r : Option ℕ) : Type 0 where
  pub cut : r ≡ None → is_whole s p ≡ false
  pub whole : (e : ℕ) → r ≡ Some e → WholeEnd s p e

-- The first five bytes of the field at p are there.
unfoldable pub long_at : List ℕ → ℕ → Bool
long_at s p = ltb (p + 4) (length s)

-- The field at p has the tag.
abbrev pub tag_is : ℕ → List ℕ → ℕ → Bool
tag_is tag s p = eqb (byte_at s p) tag

-- The contents of the field at p.
abbrev pub contents_at : List ℕ → ℕ → List ℕ
contents_at s p = take (pair_at s (p + 1)) (drop (p + 3) s)

-- The field at p.
unfoldable pub field_at : List ℕ → ℕ → Field
field_at s p = field (byte_at s p) (contents_at s p)

-- The places from p on where fields start, as far as the length bytes lead. The fuel is more than the bytes left.
unfoldable pub places_in : ℕ → List ℕ → ℕ → List ℕ
places_in zero s p = []
places_in (suc fuel) s p = elim (leb (length s) p) [ true ↦ [] | false ↦ p ∷ places_in fuel s (field_end s p) ]

-- The same, with fuel for all bytes.
unfoldable pub places_from : List ℕ → ℕ → List ℕ
places_from s p = places_in (suc (length s)) s p

-- The places of all fields.
abbrev pub places : List ℕ → List ℕ
places s = places_from s 0

-- The fields at places pass the test, and no tag is below the one before it.
unfoldable pub tags_ordered : (ℕ → Bool) → List ℕ → ℕ → List ℕ → Bool
tags_ordered test s last [] = true
tags_ordered test s last (p ∷ l) = (test p && leb last (byte_at s p)) && tags_ordered test s (byte_at s p) l

-- The key of the entry at p: the kind in a field of the leading tag, and the kind and the name in any other.
unfoldable pub key_at : ℕ → List ℕ → ℕ → ℕ
key_at leading s p = cond (eqb (byte_at s p) leading) (byte_at s (p + 3)) (32 + pair_at s (p + 3))

-- The tag of a mapping without a number, the first of a body's tags; and the least tag of a field with one (paper 02,
-- 2026-13): 28 is a mapping, 29 a clause.
abbrev pub mapping_tag : ℕ
mapping_tag = 0x22

abbrev pub numbered_tag : ℕ
numbered_tag = 0x28

-- The key of the item of a body at p: that of its kind or production, then its number, if the field is long enough for one.
unfoldable pub item_order : List ℕ → ℕ → ℕ
item_order s p =
    cond (ltb (byte_at s p) numbered_tag) (key_at mapping_tag s p * 256)
    (cond (eqb (byte_at s p) numbered_tag) (pair_at s (p + 3))
    (cond (ltb (pair_at s (p + 1)) 3) ((32 + pair_at s (p + 3)) * 256) ((32 + pair_at s (p + 3)) * 256 + byte_at s (p + 5))))

-- The key that the entry at p is ordered by: in a body with its number.
unfoldable pub order_at : ℕ → List ℕ → ℕ → ℕ
order_at leading s p = cond (eqb leading mapping_tag) (item_order s p) (key_at leading s p)

-- The key that the entry at p has in an index: that of its kind or production, or, with a number, one that no index has.
unfoldable pub slot_at : ℕ → List ℕ → ℕ → ℕ
slot_at leading s p = cond (ltb (byte_at s p) numbered_tag) (key_at leading s p) 65568

-- The first three bytes of the field at p are there, its tag is of a language, and its length bytes say that it is
-- over the limit. `proofs/Over.antt` shows that `has_over` asks for such a place.
unfoldable pub over_at : (ℕ → Bool) → ℕ → List ℕ → ℕ → Bool
over_at isLanguage limit s p = leb (p + 3) (length s) && (isLanguage (byte_at s p) && ltb limit (pair_at s (p + 1)))

-- From p on up to r there are only entries whose keys are below `least`, and the one at r is not.
pub record Skipped (leading least : ℕ) (s : List ℕ) (p r : ℕ) : Type 0 where
  pub before : List ℕ
  pub are : places_from s p ≡ before ++ places_from s r
  pub below : all (λ x. ltb (order_at leading s x) least) before ≡ true
  pub stops : r < length s → least ≤ order_at leading s r
  pub inside : all (is_whole s) (places_from s p) ≡ true → p ≤ length s → r ≤ length s
