-- The parts of a pack by their places, as the code reads them.
-- `proofs/ByPlace.antt` shows that they are the parts of `pack_parts`.
use Rattle.std.specs.Prelude as Std
use Rattle.std.specs.Prelude.{Some, ℕ, ◌+◌, ◌≤◌, ◌≡◌, Bool, true, cond, ◌&&◌, List, [], length, eqb}
use Rattle.std.proofs.Math.Option.{Option, none, some}
use Rattle.std.proofs.Math.ListN.{get_elem?}
use Rattle.format_fields.specs.Lists.{is_some, keep}
use Rattle.format_fields.specs.Fields.{byte_at}
use Rattle.format_fields.specs.Keyed.{rising}
use Rattle.format_fields.specs.Inner.Places.{field_end, is_whole, contents_at, places, order_at, tag_is, tags_ordered}
use Rattle.format_language.specs.Language.{Language}
use Rattle.format_language.specs.LanguageFile.{entries_of}
use Rattle.format_language.specs.Inner.Entries.{results_meet}
use Rattle.format_translation.specs.Translation.{Body}
use Rattle.format_translation.specs.TranslationFile.{body_of}
use Rattle.format_pack.specs.declared.parts.Place.{Place}
use Rattle.format_pack.specs.Pack.{Part, language_part, body_part, term_part}

-- The list that is there, or the empty one.
abbrev pub list_in : {A : Type 0} → Option (List A) → List A
list_in none = []
list_in (some l) = l

-- The language in the field at p.
unfoldable pub language_at : List ℕ → ℕ → Language
language_at s p = list_in (entries_of (contents_at s p))

-- The body in the field at p.
unfoldable pub body_at : List ℕ → ℕ → Body
body_at s p = list_in (body_of (contents_at s p))

-- The whole field at p is a part.
unfoldable pub part_good : List ℕ → ℕ → Bool
part_good s p =
    cond (eqb (byte_at s p) 0x30) (is_some (entries_of (contents_at s p)))
    (cond (eqb (byte_at s p) 0x31) (is_some (body_of (contents_at s p)))
    (eqb (byte_at s p) 0x32))

-- The field at p is whole, and a part.
unfoldable pub part_whole : List ℕ → ℕ → Bool
part_whole s p = is_whole s p && part_good s p

-- The part at p.
unfoldable pub part_at : List ℕ → ℕ → Part
part_at s p =
    cond (eqb (byte_at s p) 0x30) (language_part (language_at s p))
    (cond (eqb (byte_at s p) 0x31) (body_part (body_at s p))
    (term_part (contents_at s p)))

-- The fields at places are parts, and their tags do not fall below the one before.
abbrev pub parts_ordered : List ℕ → ℕ → List ℕ → Bool
parts_ordered s = tags_ordered (part_whole s) s

-- The places of the fields of this tag.
unfoldable pub tagged : ℕ → List ℕ → List ℕ
tagged tag s = keep (tag_is tag s) (places s)

-- The keys of the field at p rise, if it is a language or a body.
unfoldable pub rises_at : List ℕ → ℕ → Bool
rises_at s p =
    cond (eqb (byte_at s p) 0x30) (rising (order_at 0x11 (contents_at s p)) (places (contents_at s p)))
    (cond (eqb (byte_at s p) 0x31) (rising (order_at 0x22 (contents_at s p)) (places (contents_at s p))) true)

-- The field at p is a language in which a result is a class.
unfoldable pub clash_at : List ℕ → ℕ → Bool
clash_at s p = eqb (byte_at s p) 0x30 && results_meet (contents_at s p) (contents_at s p)

-- Where the contents of the field of this tag and number stand, if there is one.
pub record StandsAt (tag : ℕ) (s : List ℕ) (number : ℕ) (r : Std.Option Place) : Type 0 where
  pub inside : (a : Place) → r ≡ Some a → (a.start ≤ a.end) × (a.end ≤ length s)
  pub is : (p : ℕ) → get_elem? (tagged tag s) number ≡ some p → r ≡ Some (record { start = p + 3; end = field_end s p })
