-- The entries of a language by their places, as the code reads them.
-- `proofs/Holds.antt` shows that they are the entries of `entries_of`.
use Rattle.std.specs.Prelude.{ℕ, ◌+◌, ◌<◌, ◌≤◌, ◌≡◌, Bool, true, false, cond, ◌&&◌, ◌||◌, ◌⊎◌, List, [], ◌∷◌, map, length, get_or, set, replicate, ltb, leb, eqb}
use Rattle.std.proofs.Math.Seq.{slice}
use Rattle.format_fields.specs.Lists.{all, any}
use Rattle.format_fields.specs.Fields.{byte_at, pair_at}
use Rattle.format_fields.specs.Keyed.{rising}
use Rattle.format_fields.specs.Inner.Places.{field_end, is_whole, places_from, places, key_at, tag_is}
use Rattle.format_language.specs.Language.{Entry, class, production, Language, Range, range}
use Rattle.format_language.specs.LanguageFile.{is_kind}

-- The length of the contents of the field at p.
abbrev pub size_at : List ℕ → ℕ → ℕ
size_at s p = pair_at s (p + 1)

-- The step of the class at p: in length 7 it is written, in length 5 it is 1.
unfoldable pub step_at : List ℕ → ℕ → ℕ
step_at s p = cond (eqb (size_at s p) 7) (pair_at s (p + 8)) 1

-- The range of the class at p.
unfoldable pub class_range : List ℕ → ℕ → Range
class_range s p = range (pair_at s (p + 4)) (pair_at s (p + 6)) (step_at s p)

-- The contents of the field at p have the length of a class, and a step that is not 0.
unfoldable pub step_whole : List ℕ → ℕ → Bool
step_whole s p = (eqb (size_at s p) 5 || eqb (size_at s p) 7) && ltb 0 (step_at s p)

-- The contents of the field at p are those of a class.
unfoldable pub class_whole : List ℕ → ℕ → Bool
class_whole s p = step_whole s p && (is_kind (byte_at s (p + 3)) && leb (pair_at s (p + 4)) (pair_at s (p + 6)))

-- The contents of the field at p are those of a production.
unfoldable pub production_whole : List ℕ → ℕ → Bool
production_whole s p =
    leb 2 (size_at s p)
    && (leb (size_at s p) 10 && (is_kind (byte_at s (p + 3)) && all is_kind (slice (p + 5) (field_end s p) s)))

-- The whole field at p is an entry.
unfoldable pub entry_good : List ℕ → ℕ → Bool
entry_good s p =
    cond (eqb (byte_at s p) 0x11) (class_whole s p)
    (cond (eqb (byte_at s p) 0x12) (production_whole s p) false)

-- The field at p is whole, and an entry.
unfoldable pub entry_whole : List ℕ → ℕ → Bool
entry_whole s p = is_whole s p && entry_good s p

-- The entry at p.
unfoldable pub entry_at : List ℕ → ℕ → Entry
entry_at s p =
    cond (eqb (byte_at s p) 0x11)
    (class (byte_at s (p + 3)) (class_range s p))
    (production (byte_at s (p + 3)) (byte_at s (p + 4)) (slice (p + 5) (field_end s p) s))

-- The field at p is a whole class.
pub record IsClass (s : List ℕ) (p : ℕ) : Type 0 where
  pub tag : byte_at s p ≡ 0x11
  pub fits : field_end s p ≤ length s
  pub size : (size_at s p ≡ 5) ⊎ (size_at s p ≡ 7)
  pub kind : byte_at s (p + 3) < 32
  pub range : pair_at s (p + 4) ≤ pair_at s (p + 6)
  pub step : 0 < step_at s p

-- The field at p is a whole production.
pub record IsProduction (s : List ℕ) (p : ℕ) : Type 0 where
  pub tag : byte_at s p ≡ 0x12
  pub fits : field_end s p ≤ length s
  pub two : 2 ≤ size_at s p
  pub ten : size_at s p ≤ 10
  pub kind : byte_at s (p + 3) < 32
  pub arguments : all is_kind (slice (p + 5) (field_end s p) s) ≡ true

-- The bytes s hold the entries l, one at each place.
pub record Holds (s : List ℕ) (l : Language) : Type 0 where
  pub entries : map (entry_at s) (places s) ≡ l
  pub whole : all (entry_whole s) (places s) ≡ true

-- The table of kinds with the class at p marked in it.
unfoldable pub mark_class : List ℕ → List Bool → ℕ → List Bool
mark_class s kinds p = cond (eqb (byte_at s p) 0x11) (set kinds (byte_at s (p + 3)) true) kinds

-- The table of kinds with the classes at places marked in it.
unfoldable pub mark_classes : List ℕ → List Bool → List ℕ → List Bool
mark_classes s kinds [] = kinds
mark_classes s kinds (p ∷ l) = mark_classes s (mark_class s kinds p) l

-- Which kinds are classes.
unfoldable pub class_kinds : List ℕ → List Bool
class_kinds s = mark_classes s (replicate 32 false) (places s)

-- The entry at p is a production whose result is marked in the table.
unfoldable pub result_marked : List ℕ → List Bool → ℕ → Bool
result_marked s kinds p = eqb (byte_at s p) 0x12 && get_or kinds (byte_at s (p + 3)) false

-- Some class of the first file is a result of the second.
unfoldable pub results_meet : List ℕ → List ℕ → Bool
results_meet s t = any (result_marked t (class_kinds s)) (places t)

-- Some result is a class.
abbrev pub result_is_class : List ℕ → Bool
result_is_class s = results_meet s s

-- The bytes are whole entries, and their keys rise.
pub record RisingEntries (s : List ℕ) : Type 0 where
  pub whole : all (entry_whole s) (places s) ≡ true
  pub rises : rising (key_at 0x11 s) (places s) ≡ true

-- The classes of s stand before p, and are marked.
pub record Classed (s : List ℕ) (kinds marked : List Bool) (p : ℕ) : Type 0 where
  pub marks : marked ≡ mark_classes s kinds (places s)
  pub results : (table : List Bool) → any (result_marked s table) (places_from s p) ≡ any (result_marked s table) (places s)
  pub whole : all (entry_whole s) (places_from s p) ≡ true
  pub productions : all (tag_is 0x12 s) (places_from s p) ≡ true
