-- The walk over the items of a body: a law for each return and turn of `is_plain`.
use Prim.Native.Nat.{ℕ, ◌+◌, ◌<◌, ◌≤◌}
use mathlib.Core.Path.{◌≡◌, refl, sym, ap, ◌∙◌}
use mathlib.Core.Bool.{true, false}
use mathlib.Core.List.{List, ◌∷◌, map}
use mathlib.Core.Option.{some}
use native.Mathlib.Omega.{arith}
use lib.ListN.{length, get_or}
use borrow.Author.Tests.{ne_eqb}
use Rattle.format_fields.specs.Lists.{all}
use Rattle.format_fields.specs.Inner.Places.{field_end, places_from}
use Rattle.format_fields.proofs.Places.{places_done, places_next, every_here, every_after}
use Rattle.format_translation.specs.Translation.{Body, number_of}
use Rattle.format_translation.specs.TranslationFile.{body_of}
use Rattle.format_translation.specs.Inner.Items.{item_whole, item_at, ItemFacts, plain_mapping, plain_clause, numbered_mapping_lem, numbered_clause_lem}
use Rattle.format_translation.proofs.Items.{holds_items, item_facts, mapping_is, clause_is, numbered_mapping_is, numbered_clause_is}
use Rattle.format_translation.specs.Plain.{by_zero, plain}

-- The items from p on are whole.
abbrev pub Whole : List ℕ → ℕ → Type 0
Whole s p = all (item_whole s) (places_from s p) ≡ true

-- The items before p are of number 0: what is left of the test.
abbrev pub Left : List ℕ → ℕ → Body → Type 0
Left s p b = all by_zero (map (item_at s) (places_from s p)) ≡ plain b

pub whole_start : (s : List ℕ) (b : Body) → body_of s ≡ some b → Whole s 0
whole_start s b e = (holds_items s b e).whole

pub left_start : (s : List ℕ) (b : Body) → body_of s ≡ some b → Left s 0 b
unfolding plain
left_start s b e = ap (all by_zero) (holds_items s b e).items

pub left_end : (s : List ℕ) (p : ℕ) (b : Body) → Left s p b → length s ≤ p → true ≡ plain b
unfolding all
left_end s p b v h = ap (λ (l : List ℕ). all by_zero (map (item_at s) l)) (sym (places_done s p h)) ∙ v

module _ (s : List ℕ) (p : ℕ) (w : Whole s p) (here : p < length s) where
  facts : ItemFacts s p
  facts = item_facts s p (every_here (item_whole s) s p w here).0

  pub head_there : p + 2 < length s
  head_there = go facts
    where
      go : ItemFacts s p → p + 2 < length s
      go (plain_mapping m) = let f = m.fits in omega arith
      go (plain_clause m) = let a = m.past in let e = m.ends in omega arith
      go (numbered_mapping_lem m) = let f = m.fits in omega arith
      go (numbered_clause_lem m) = let a = m.past in let e = m.ends in omega arith

  pub whole_next : (e : ℕ) → e ≡ field_end s p → Whole s e
  whole_next e ee = every_after (item_whole s) s p e ee w here

  zero_here : get_or s p 0 < 0x28 → ItemFacts s p → by_zero (item_at s p) ≡ true
  unfolding by_zero number_of
  zero_here h (plain_mapping m) = rw (mapping_is s p m) refl
  zero_here h (plain_clause m) = rw (clause_is s p m) refl
  zero_here h (numbered_mapping_lem m) = let t = m.tag in absurd (omega arith)
  zero_here h (numbered_clause_lem m) = let t = m.tag in absurd (omega arith)

  number_here : 0x28 ≤ get_or s p 0 → ItemFacts s p → by_zero (item_at s p) ≡ false
  unfolding by_zero number_of
  number_here h (plain_mapping m) = let t = m.tag in absurd (omega arith)
  number_here h (plain_clause m) = let t = m.tag in absurd (omega arith)
  number_here h (numbered_mapping_lem m) = let n = m.number in rw (numbered_mapping_is s p m) (ne_eqb (get_or s (p + 4) 0) 0 (omega arith))
  number_here h (numbered_clause_lem m) = let n = m.number in rw (numbered_clause_is s p m) (ne_eqb (get_or s (p + 5) 0) 0 (omega arith))

  module _ (b : Body) (v : Left s p b) where
    next : all by_zero (item_at s p ∷ map (item_at s) (places_from s (field_end s p))) ≡ plain b
    next = ap (λ (l : List ℕ). all by_zero (map (item_at s) l)) (sym (places_next s p here)) ∙ v

    pub left_number : 0x28 ≤ get_or s p 0 → false ≡ plain b
    unfolding all
    left_number h = rw (number_here h facts) at next

    pub left_next : get_or s p 0 < 0x28 → (e : ℕ) → e ≡ field_end s p → Left s e b
    unfolding all
    left_next h e ee = rw ee (rw (zero_here h facts) at next)
