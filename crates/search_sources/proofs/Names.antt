-- The names of a language that was read from a file of bytes are bytes.
use Prim.Native.Nat.{ℕ, ◌+◌, ◌<◌}
use mathlib.Core.Path.{◌≡◌, sym}
use mathlib.Core.Bool.{Bool, true, false, cond}
use mathlib.Core.List.{List, ◌∷◌, map}
use mathlib.Core.Option.{some}
use native.Mathlib.Omega.{arith}
use lib.ListN.{get_or}
use lib.Seq.{slice}
use lib.Dec.{eqb}
use Rattle.outcome.specs.Outcome.{value}
use Rattle.format_fields.specs.Fields.{byte_at, field}
use Rattle.format_fields.specs.Inner.Places.{places, field_end}
use Rattle.format_fields.proofs.Truth.{Mem, map_cases}
use Rattle.format_fields.proofs.Codec.{bytes_from, bytes_at, fields_sound}
use Rattle.format_language.specs.Language.{Language, Entry, class, production, Range}
use Rattle.format_language.specs.LanguageFile.{entries_of}
use Rattle.format_language.specs.Inner.Entries.{entry_at, class_range}
use Rattle.format_language.proofs.Lookup.{arguments_mem}
use Rattle.format_language.proofs.Holds.{holds_entries}
use Rattle.format_translation.specs.Translation.{Translation}
use Rattle.format_translation.specs.TranslationFile.{translation_of}
use Rattle.format_translation.proofs.Codec.{PartsIn, translation_whole}
use Rattle.search_sources.proofs.Answers.{Named}

-- A class is no production.
pub class_production : {A : Type 0} {r q p : ℕ} {c : Range} {ks : List ℕ} → class q c ≡ production r p ks → A
class_production {r = r} {q = q} {p = p} {c = c} {ks = ks} e = absurd (clash e)
  where
    clash : class q c ≡ production r p ks → ⊥
    clash e = let z : ◌≡◌ {A = ℕ} 0 1 = cc in omega arith

-- A language that was read from bytes.
module _ (s : List ℕ) (l : Language) (e : entries_of s ≡ some l) where
  -- Each entry stands at a place of the bytes.
  pub entry_place : (a : Entry) → Mem a l → (q : ℕ) × (a ≡ entry_at s q)
  entry_place a known =
      let h = holds_entries s l e in
      let m : Mem a (map (entry_at s) (places s)) = rw h.entries known in
      let z = map_cases (entry_at s) a (places s) m in
      (z.0, z.2)

  -- A name is a byte.
  pub named_of : ((i : ℕ) → get_or s i 0 < 256) → Named l
  unfolding entry_at
  named_of narrow k p ks known =
      let (q, d) = entry_place (production k p ks) (arguments_mem l k p ks known) in
      let n = narrow (q + 4) in
      let x : p ≡ byte_at s (q + 4) = named_byte (eqb (byte_at s q) 0x11) (byte_at s (q + 3)) (byte_at s (q + 4)) (class_range s q) (slice (q + 5) (field_end s q) s) d in
      rw x n
    where
      named_byte : (b : Bool) (r q : ℕ) (c : Range) (js : List ℕ) → production k p ks ≡ cond b (class r c) (production r q js) → p ≡ q
      named_byte true r q c js y = class_production (sym y)
      named_byte false r q c js y = cc

-- The source of a translation that was accepted from a file of bytes.
module _ (file : List ℕ) (f : Translation) (accepted : translation_of file ≡ value f) (narrow : (i : ℕ) → byte_at file i < 256) where
  abbrev parts : PartsIn file f
  parts = (translation_whole file f accepted).0

  pub source_bytes_lem : (i : ℕ) → byte_at parts.source_bytes i < 256
  source_bytes_lem =
      bytes_at parts.source_bytes
      (fields_sound file (field 0x20 parts.source_bytes ∷ field 0x21 parts.target_bytes ∷ parts.items) (bytes_from file (λ i h. narrow i)) parts.fields).1.0.contents

  pub source_names : Named f.source
  source_names = named_of parts.source_bytes f.source parts.source source_bytes_lem
