-- The numbers in the entries of a language and in the items of a body are within their bounds.
use Prim.Native.Nat.{ℕ, ◌+◌, ◌<◌, ◌≤◌}
use mathlib.Core.Path.{◌≡◌, refl}
use mathlib.Core.Logic.{⊎_elim}
use mathlib.Core.Bool.{true}
use mathlib.Core.List.{List}
use mathlib.Core.Option
use mathlib.Core.Option.{Option, none, some}
use native.Mathlib.Omega.{arith}
use lib.ListN.{length, get_or, length-take, length-drop}
use lib.Seq.{slice}
use Rattle.format_fields.specs.Lists.{all}
use Rattle.format_fields.specs.Inner.Places.{field_end, places}
use Rattle.format_fields.proofs.Truth.{Mem, all_mem, map_cases}
use Rattle.format_language.specs.Language.{Entry, class, production, Language}
use Rattle.format_language.specs.LanguageFile.{is_kind, entries_of}
use Rattle.format_language.specs.Inner.Entries.{entry_whole, entry_at, IsProduction}
use Rattle.format_language.proofs.Facts.{entry_facts, class_is, production_is}
use Rattle.format_language.proofs.Holds.{holds_entries}
use Rattle.format_translation.specs.Translation.{Item, mapping, clause, Body, mapping_of, mapped}
use Rattle.format_translation.specs.TranslationFile.{body_of}
use Rattle.format_translation.specs.Inner.Items.{item_whole, item_at, ItemFacts, plain_mapping, plain_clause, numbered_mapping_lem, numbered_clause_lem}
use Rattle.format_translation.proofs.Items.{item_facts, mapping_is, clause_is, numbered_mapping_is, numbered_clause_is, holds_items}
use Rattle.format_translation.proofs.Lookup.{mapping_mem}

-- An item's kinds and numbers are within their bounds, and so are an entry's.
abbrev pub Bounded : Item → Type 0
Bounded (mapping s j t) = (s < 32) × (j < 256) × (t < 32)
Bounded (clause r p j c) = (r < 32) × (p < 256) × (j < 256)

abbrev pub Within : Entry → Type 0
Within (class k c) = k < 32
Within (production r p ks) = (r < 32) × (p < 256) × (length ks ≤ 8) × (all is_kind ks ≡ true)

module _ (b : List ℕ) (bytes : (i : ℕ) → get_or b i 0 < 256) where
  item_bounded : (p : ℕ) → ItemFacts b p → Bounded (item_at b p)
  item_bounded p (plain_mapping m) = rw (mapping_is b p m) (m.source, omega arith, m.target)
  item_bounded p (plain_clause m) = rw (clause_is b p m) (m.result, bytes (p + 4), omega arith)
  item_bounded p (numbered_mapping_lem m) = rw (numbered_mapping_is b p m) (m.source, m.byte, m.target)
  item_bounded p (numbered_clause_lem m) = rw (numbered_clause_is b p m) (m.result, bytes (p + 4), m.byte)

  pub bounded_at : (p : ℕ) → item_whole b p ≡ true → Bounded (item_at b p)
  bounded_at p w = item_bounded p (item_facts b p w)

  -- Where an item of the body stands.
  pub item_place : (m : Body) → body_of b ≡ some m → (a : Item) → Mem a m → (p : ℕ) × Mem p (places b) × (a ≡ item_at b p) × (item_whole b p ≡ true)
  item_place m e a q =
      let h = holds_items b m e in
      let r = map_cases (item_at b) a (places b) (rw h.items q) in
      (r.0, r.1, r.2, all_mem (item_whole b) (places b) h.whole r.0 r.1)

  pub bounded : (m : Body) → body_of b ≡ some m → (a : Item) → Mem a m → Bounded a
  bounded m e a q = let r = item_place m e a q in rw r.2 (bounded_at r.0 r.3)

-- What a kind maps to is a kind.
pub mapped_below : (b : List ℕ) → ((i : ℕ) → get_or b i 0 < 256) → (m : Body) → body_of b ≡ some m → (k j : ℕ) → mapped m k j < 32
unfolding mapped
mapped_below b bytes m e k j = go (mapping_of m k j) refl
  where
    go : (o : Option ℕ) → mapping_of m k j ≡ o → Option.get_or o 0 < 32
    go none q = omega arith
    go (some t) q = (bounded b bytes m e (mapping k j t) (mapping_mem m k j t q)).2

module _ (s : List ℕ) (bytes : (i : ℕ) → get_or s i 0 < 256) where
  few : (p : ℕ) → IsProduction s p → length (slice (p + 5) (field_end s p) s) ≤ 8
  unfolding field_end
  few p w = let a = w.ten in simp (length-drop, length-take) (omega arith)

  pub within_at : (p : ℕ) → entry_whole s p ≡ true → Within (entry_at s p)
  within_at p w =
      ⊎_elim
      (λ c. rw (class_is s p c) c.kind)
      (λ c. rw (production_is s p c) (c.kind, bytes (p + 4), few p c, c.arguments))
      (entry_facts s p w)

  pub within : (l : Language) → entries_of s ≡ some l → (a : Entry) → Mem a l → Within a
  within l e a q =
      let h = holds_entries s l e in
      let r = map_cases (entry_at s) a (places s) (rw h.entries q) in
      rw r.2 (within_at r.0 (all_mem (entry_whole s) (places s) h.whole r.0 r.1))
