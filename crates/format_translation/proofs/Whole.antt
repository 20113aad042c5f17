-- Whole entries and items: what stands in them, and a turn of a walk over them.
use Prim.Native.Nat.{ℕ, ◌+◌, ◌<◌, ◌≤◌}
use mathlib.Core.Path.{◌≡◌, refl}
use mathlib.Core.Logic.{⊎_elim}
use mathlib.Core.Bool.{true}
use mathlib.Core.List.{List}
use native.Mathlib.Omega.{arith}
use lib.ListN.{length, get_or}
use borrow.Author.Tests.{lt-ltb}
use Rattle.format_fields.specs.Lists.{all}
use Rattle.format_fields.specs.Inner.Places.{field_end, long_at, places_from, places}
use Rattle.format_fields.proofs.Truth.{all_mem, mem_all}
use Rattle.format_fields.proofs.Places.{every_here}
use Rattle.format_language.specs.Inner.Entries.{entry_whole, IsProduction}
use Rattle.format_language.proofs.Facts.{entry_facts}
use Rattle.tree_reader.specs.Inner.Positions.{KindsIn}
use Rattle.tree_reader.proofs.Indexed.{part_kinds}
use Rattle.format_translation.specs.Inner.Items.{item_whole, ItemFacts, plain_mapping, plain_clause, numbered_mapping_lem, numbered_clause_lem}
use Rattle.format_translation.proofs.Items.{item_facts}

-- A walk over kinds.
pub kinds_here : (s : List ℕ) (q e : ℕ) → KindsIn s q e → q < e → (q < length s) × (get_or s q 0 < 32)
kinds_here s q e k h = k q (omega arith) h

pub kinds_on : (s : List ℕ) (q e : ℕ) → KindsIn s q e → KindsIn s (q + 1) e
kinds_on s q e k x i j = k x (omega arith) j

-- The kinds of a production's arguments.
pub arguments_in : (s : List ℕ) (q e : ℕ) → IsProduction s q → e ≡ field_end s q → KindsIn s (q + 5) e × (e ≤ q + 5 + 8) × (q + 5 ≤ e) × (e ≤ length s)
unfolding field_end
arguments_in s q e w ee =
    let a = w.two in
    let b = w.ten in
    let c = w.fits in
    (rw ee (part_kinds _ s (q + 5) (field_end s q) refl w.fits w.arguments), omega arith, omega arith, omega arith)

-- A whole entry that is no class is a production.
pub entry_other : (s : List ℕ) (p : ℕ) → entry_whole s p ≡ true → (get_or s p 0 ≡ 0x11 → ⊥) → IsProduction s p
entry_other s p w h = ⊎_elim (λ c. absurd (h c.tag)) (λ c. c) (entry_facts s p w)

-- A walk over whole entries: those after the one at p.
module _ (s : List ℕ) (p : ℕ) (whole : all (entry_whole s) (places_from s p) ≡ true) (e : ℕ) (ee : e ≡ field_end s p) (here : p < length s) where
  pub entries_on : all (entry_whole s) (places_from s e) ≡ true
  entries_on = rw ee (every_here (entry_whole s) s p whole here).1

-- A whole item has its first five bytes.
pub item_long : (b : List ℕ) (p : ℕ) → item_whole b p ≡ true → p + 4 < length b
item_long b p w = go (item_facts b p w)
  where
    go : ItemFacts b p → p + 4 < length b
    go (plain_mapping m) = let f = m.fits in omega arith
    go (plain_clause c) = let f = c.past in let g = c.ends in omega arith
    go (numbered_mapping_lem m) = let f = m.fits in omega arith
    go (numbered_clause_lem c) = let f = c.past in let g = c.ends in omega arith

-- A walk over whole items: the one at p, and those after it.
module _ (s : List ℕ) (p : ℕ) (whole : all (item_whole s) (places_from s p) ≡ true) (e : ℕ) (ee : e ≡ field_end s p) (here : p < length s) where
  pub item_here : item_whole s p ≡ true
  item_here = (every_here (item_whole s) s p whole here).0

  pub items_on : all (item_whole s) (places_from s e) ≡ true
  items_on = rw ee (every_here (item_whole s) s p whole here).1

-- Whole items have their first five bytes.
pub items_long : (s : List ℕ) → all (item_whole s) (places s) ≡ true → all (long_at s) (places s) ≡ true
unfolding long_at
items_long s h = mem_all _ (places s) (λ p m. lt-ltb _ _ (item_long s p (all_mem (item_whole s) (places s) h p m)))
