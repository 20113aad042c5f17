-- The items of a body by their places, as the code reads them.
-- `proofs/Items.antt` shows that they are the items of `body_of`.
use Rattle.std.specs.Prelude.{ℕ, ◌+◌, ◌<◌, ◌≤◌, ◌≡◌, Bool, true, false, cond, not, ◌&&◌, ◌||◌, List, [], ◌∷◌, map, length, leb, eqb}
use Rattle.std.proofs.Math.Seq.{slice}
use Rattle.format_fields.specs.Lists.{all}
use Rattle.format_fields.specs.Fields.{byte_at}
use Rattle.format_fields.specs.Inner.Places.{field_end, is_whole, places}
use Rattle.format_language.specs.LanguageFile.{is_kind}
use Rattle.format_language.specs.Inner.Entries.{size_at}
use Rattle.format_translation.specs.Translation.{Item, mapping, clause, Body}
use Rattle.format_translation.specs.TranslationFile.{is_number}

-- The contents of the field at p are those of a mapping by number 0.
unfoldable pub mapping_whole : List ℕ → ℕ → Bool
mapping_whole s p = eqb (size_at s p) 2 && (is_kind (byte_at s (p + 3)) && is_kind (byte_at s (p + 4)))

-- They are those of a mapping by another number.
unfoldable pub numbered_mapping_whole : List ℕ → ℕ → Bool
numbered_mapping_whole s p =
    eqb (size_at s p) 3 && (is_kind (byte_at s (p + 3)) && (is_number (byte_at s (p + 4)) && is_kind (byte_at s (p + 5))))

-- They are those of a clause of number 0.
unfoldable pub clause_whole : List ℕ → ℕ → Bool
clause_whole s p = leb 2 (size_at s p) && is_kind (byte_at s (p + 3))

-- They are those of a clause of another number.
unfoldable pub numbered_clause_whole : List ℕ → ℕ → Bool
numbered_clause_whole s p = leb 3 (size_at s p) && (is_kind (byte_at s (p + 3)) && is_number (byte_at s (p + 5)))

-- The whole field at p is an item.
unfoldable pub item_good : List ℕ → ℕ → Bool
item_good s p =
    cond (eqb (byte_at s p) 0x22) (mapping_whole s p)
    (cond (eqb (byte_at s p) 0x23) (clause_whole s p)
    (cond (eqb (byte_at s p) 0x28) (numbered_mapping_whole s p)
    (cond (eqb (byte_at s p) 0x29) (numbered_clause_whole s p) false)))

-- The field at p is whole, and an item.
unfoldable pub item_whole : List ℕ → ℕ → Bool
item_whole s p = is_whole s p && item_good s p

-- The item at p.
unfoldable pub item_at : List ℕ → ℕ → Item
item_at s p =
    cond (eqb (byte_at s p) 0x22) (mapping (byte_at s (p + 3)) 0 (byte_at s (p + 4)))
    (cond (eqb (byte_at s p) 0x23) (clause (byte_at s (p + 3)) (byte_at s (p + 4)) 0 (slice (p + 5) (field_end s p) s))
    (cond (eqb (byte_at s p) 0x28) (mapping (byte_at s (p + 3)) (byte_at s (p + 4)) (byte_at s (p + 5)))
    (clause (byte_at s (p + 3)) (byte_at s (p + 4)) (byte_at s (p + 5)) (slice (p + 6) (field_end s p) s))))

-- The field at p is a whole mapping by number 0.
pub record IsMapping (s : List ℕ) (p : ℕ) : Type 0 where
  pub tag : byte_at s p ≡ 0x22
  pub fits : p + 5 ≤ length s
  pub source : byte_at s (p + 3) < 32
  pub target : byte_at s (p + 4) < 32

-- The field at p is a whole clause of number 0.
pub record IsClause (s : List ℕ) (p : ℕ) : Type 0 where
  pub tag : byte_at s p ≡ 0x23
  pub ends : field_end s p ≤ length s
  pub past : p + 5 ≤ field_end s p
  pub result : byte_at s (p + 3) < 32

-- The field at p is a whole mapping by another number.
pub record IsNumberedMapping (s : List ℕ) (p : ℕ) : Type 0 where
  pub tag : byte_at s p ≡ 0x28
  pub fits : p + 6 ≤ length s
  pub source : byte_at s (p + 3) < 32
  pub number : 0 < byte_at s (p + 4)
  pub byte : byte_at s (p + 4) < 256
  pub target : byte_at s (p + 5) < 32

-- The field at p is a whole clause of another number.
pub record IsNumberedClause (s : List ℕ) (p : ℕ) : Type 0 where
  pub tag : byte_at s p ≡ 0x29
  pub ends : field_end s p ≤ length s
  pub past : p + 6 ≤ field_end s p
  pub result : byte_at s (p + 3) < 32
  pub number : 0 < byte_at s (p + 5)
  pub byte : byte_at s (p + 5) < 256

-- The field at p is a whole item of one of the four forms.
pub data ItemFacts (s : List ℕ) (p : ℕ) : Type 0 where
  plain_mapping : IsMapping s p → ItemFacts s p
  plain_clause : IsClause s p → ItemFacts s p
  numbered_mapping_lem : IsNumberedMapping s p → ItemFacts s p
  numbered_clause_lem : IsNumberedClause s p → ItemFacts s p

-- A tag of a clause.
abbrev pub is_clause_tag : ℕ → Bool
is_clause_tag tag = eqb tag 0x23 || eqb tag 0x29

-- Where the code of the clause at p starts: behind its number, where it has one.
unfoldable pub code_start : List ℕ → ℕ → ℕ
code_start s p = cond (eqb (byte_at s p) 0x29) (p + 6) (p + 5)

-- The number of the clause at p.
unfoldable pub clause_number : List ℕ → ℕ → ℕ
clause_number s p = cond (eqb (byte_at s p) 0x29) (byte_at s (p + 5)) 0

-- The fields at places are whole items, and no mapping stands after a clause; the second argument says whether one has come.
unfoldable pub items_whole : List ℕ → Bool → List ℕ → Bool
items_whole s past [] = true
items_whole s past (p ∷ l) =
    (item_whole s p && (is_clause_tag (byte_at s p) || not past)) && items_whole s (is_clause_tag (byte_at s p)) l

-- The bytes s hold the items b, one at each place.
pub record HoldsItems (s : List ℕ) (b : Body) : Type 0 where
  pub items : map (item_at s) (places s) ≡ b
  pub whole : all (item_whole s) (places s) ≡ true
