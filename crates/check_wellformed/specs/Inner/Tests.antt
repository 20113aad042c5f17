-- The tests of "well formed" by place, looked up through tables and indexes.
-- `proofs/Mappings.antt` and `proofs/Coded.antt` show that they are those of `well_formed`.
use Rattle.std.specs.Prelude.{ℕ, zero, suc, Option, Some, None, ◌+◌, ◌-◌, ◌*◌, ◌<◌, ◌≤◌, ◌≡◌, Bool, true, false, cond, not, ◌&&◌, List, [], ◌∷◌, ◌++◌, length, get_or, set, take, eqb}
use Rattle.std.specs.Bool.{beq}
use Rattle.std.proofs.Math.Seq.{slice}
use Rattle.format_fields.specs.Fields.{byte_at}
use Rattle.format_fields.specs.Inner.Places.{field_end}
use Rattle.format_language.specs.Language.{range_within}
use Rattle.format_language.specs.Inner.Entries.{class_range}
use Rattle.tree_reader.specs.Inner.Positions.{uses_length}
use Rattle.format_translation.specs.Translation.{clause}
use Rattle.format_translation.specs.Inner.Items.{item_whole, item_at, is_clause_tag, code_start, clause_number}
use Rattle.check_wellformed.specs.declared.parts.Parts.{Parts}
use Rattle.check_wellformed.specs.Inner.Ready.{uses_room, index_of}

-- The table of kinds with the kinds of a list marked in it.
unfoldable pub mark_all : List Bool → List ℕ → List Bool
mark_all kinds [] = kinds
mark_all kinds (k ∷ l) = mark_all (set kinds k true) l

-- The kinds that the entry at p mentions.
unfoldable pub mentioned_at : List ℕ → ℕ → List ℕ
mentioned_at s p = byte_at s (p + 3) ∷ cond (eqb (byte_at s p) 0x11) [] (slice (p + 5) (field_end s p) s)

-- The table of kinds with the kinds of the entries at places marked in it.
unfoldable pub mark_entries : List ℕ → List Bool → List ℕ → List Bool
mark_entries s kinds [] = kinds
mark_entries s kinds (p ∷ l) = mark_entries s (mark_all kinds (mentioned_at s p)) l

-- Kind k is mapped by number 0 if it is marked.
unfoldable pub mapped_if : List ℕ → List Bool → ℕ → Bool
mapped_if u kinds k = beq (not (eqb (get_or u (k * 256) 0) 0)) (get_or kinds k false)

-- The field at p is a whole mapping, of any number: its first byte is its source, its last its target.
pub record MapsAt (b : List ℕ) (p : ℕ) : Type 0 where
  pub past : p + 5 ≤ field_end b p
  pub ends : field_end b p ≤ length b
  pub source : byte_at b (p + 3) < 32
  pub target : byte_at b (field_end b p - 1) < 32

-- The source of the mapping at p is marked, and so is its target.
unfoldable pub reaches_at : List ℕ → List Bool → List Bool → ℕ → Bool
reaches_at b marked reached p = get_or marked (byte_at b (p + 3)) false && get_or reached (byte_at b (field_end b p - 1)) false

-- The place before a number of an index, which has 0 where there is none.
abbrev pub place_before : ℕ → Option ℕ
place_before zero = None
place_before (suc p) = Some p

-- The range of the class of s at `place` lies in that of the class of t at `goal`: none in s asks for nothing, none in t
-- contains nothing.
unfoldable pub range_kept : List ℕ → Option ℕ → List ℕ → Option ℕ → Bool
range_kept s None t goal = true
range_kept s (Some p) t None = false
range_kept s (Some p) t (Some q) = range_within (class_range s p) (class_range t q)

-- The source of the mapping at p, if it is a class, maps to a class that contains its range.
unfoldable pub kept_at : List ℕ → List ℕ → List ℕ → List ℕ → List ℕ → ℕ → Bool
kept_at s is t it b p =
    range_kept s (place_before (get_or is (byte_at b (p + 3)) 0)) t (place_before (get_or it (byte_at b (field_end b p - 1)) 0))

-- The mapping at p, if there is one, passes both tests.
unfoldable pub fits_at : List ℕ → List ℕ → List ℕ → List ℕ → List ℕ → List Bool → List Bool → ℕ → Bool
fits_at s is t it b marked reached p =
    cond (is_clause_tag (byte_at b p)) true (reaches_at b marked reached p && kept_at s is t it b p)

-- These tests of the mapping at p of the parts.
abbrev pub kept_in : Parts → ℕ → Bool
kept_in r p = kept_at r.source.now (index_of r.source.now) r.target.now r.targets.now r.body.now p

abbrev pub fits_in : Parts → List Bool → List Bool → ℕ → Bool
fits_in r marked reached p = fits_at r.source.now (index_of r.source.now) r.target.now r.targets.now r.body.now marked reached p

-- The field at p is a whole clause.
unfoldable pub is_clause_at : List ℕ → ℕ → Bool
is_clause_at b p = item_whole b p && is_clause_tag (byte_at b p)

-- What is known of the clause at p.
pub record ClauseAt (b : List ℕ) (p : ℕ) : Type 0 where
  pub result : byte_at b (p + 3) < 32
  pub number : clause_number b p < 256
  pub starts : p + 5 ≤ code_start b p
  pub past : code_start b p ≤ field_end b p
  pub ends : field_end b p ≤ length b
  pub key : byte_at b p ≡ 0x22 → ⊥
  pub is : item_at b p ≡ clause (byte_at b (p + 3)) (byte_at b (p + 4)) (clause_number b p) (slice (code_start b p) (field_end b p) b)

-- The kinds of a production's arguments were put behind the uses of the mappings, which are as they were; they end at r.
pub record Behind (u u' kinds : List ℕ) (r : ℕ) : Type 0 where
  pub bytes : take r u' ≡ take uses_length u ++ kinds
  pub fits : r ≤ uses_room
  pub room : length u' ≡ uses_room
  pub kept : take uses_length u' ≡ take uses_length u
