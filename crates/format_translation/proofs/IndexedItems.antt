-- The index that was built is the index of the body: what is looked up through it is what stands in the body.
use Prim.Native.Nat.{ℕ, zero, suc, ◌+◌, ◌<◌, ◌≤◌}
use mathlib.Core.Path.{◌≡◌, refl, sym, ap, ◌∙◌}
use mathlib.Core.List.{List}
use mathlib.Core.Logic.{◌⊎◌, inl, inr}
use mathlib.Core.Bool.{Bool, true, false, cond, not, ◌&&◌}
use mathlib.Core.Option
use mathlib.Core.Option.{Option, none, some}
use native.Mathlib.Omega.{arith}
use native.Mathlib.Numerals.{add-one}
use lib.ListN.{get_or-eq_default, length, get_or}
use lib.Seq.{slice}
use lib.Dec.{eqb}
use borrow.Author.Tests.{eq-eqb, ne_eqb, eqb-false}
use Rattle.format_fields.specs.Fields.{pair_at}
use Rattle.format_fields.specs.Lists.{first, is_some}
use Rattle.format_fields.specs.Inner.Places.{field_end, places, key_at, slot_at}
use Rattle.format_fields.proofs.Truth.{by_test}
use Rattle.format_language.specs.Language.{kind_key, production_key}
use Rattle.tree_reader.specs.Inner.Index.{put_all}
use Rattle.tree_reader.proofs.Placed.{place_of, puts_length, puts_place, found, Groups, of_first, of_second, looked_kind, looked_name}
use Rattle.format_translation.specs.Translation.{Body, target_at, mapping_of, code_at, clause_of, mapped}
use Rattle.format_translation.specs.TranslationFile.{body_of}
use Rattle.format_translation.specs.Inner.Items.{item_whole, item_at, IsMapping, IsClause, IsNumberedMapping, IsNumberedClause, ItemFacts, plain_mapping, plain_clause, numbered_mapping_lem, numbered_clause_lem, HoldsItems}
use Rattle.format_translation.specs.Inner.ItemIndex.{target_before, code_before, SoundItems, IndexedItems, mapped_at, known_at}
use Rattle.format_translation.proofs.Items.{item_facts, mapping_is, clause_is, numbered_mapping_is, numbered_clause_is, holds_items}

-- Keys of whole items.
module _ (s : List ℕ) (p : ℕ) where
  pub mapping_key : IsMapping s p → slot_at 0x22 s p ≡ get_or s (p + 3) 0
  unfolding slot_at key_at
  mapping_key w = cc w.tag

  pub clause_key : IsClause s p → slot_at 0x22 s p ≡ production_key (get_or s (p + 3) 0) (get_or s (p + 4) 0)
  unfolding slot_at key_at pair_at
  clause_key w = let d : p + 3 + 1 ≡ p + 4 = omega arith in cc w.tag

  numbered_key : IsNumberedMapping s p ⊎ IsNumberedClause s p → slot_at 0x22 s p ≡ 65568
  unfolding slot_at
  numbered_key (inl w) = cc w.tag
  numbered_key (inr w) = cc w.tag

  -- The four forms in three groups.
  item_groups : item_whole s p ≡ true → IsMapping s p ⊎ (IsClause s p ⊎ (IsNumberedMapping s p ⊎ IsNumberedClause s p))
  item_groups w = go (item_facts s p w)
    where
      go : ItemFacts s p → IsMapping s p ⊎ (IsClause s p ⊎ (IsNumberedMapping s p ⊎ IsNumberedClause s p))
      go (plain_mapping m) = inl m
      go (plain_clause m) = inr (inl m)
      go (numbered_mapping_lem m) = inr (inr (inl m))
      go (numbered_clause_lem m) = inr (inr (inr m))

-- Items with a number.
abbrev Numbered : List ℕ → ℕ → Type 0
Numbered s p = IsNumberedMapping s p ⊎ IsNumberedClause s p

-- A numbered item is not looked up by number 0.
no_target : (s : List ℕ) (k p : ℕ) → Numbered s p → target_at k 0 (item_at s p) ≡ none
unfolding target_at
no_target s k p (inl m) = rw (numbered_mapping_is s p m, ne_eqb (get_or s (p + 4) 0) 0 (λ z. omega (arith, m.number))) (go (eqb (get_or s (p + 3) 0) k))
  where
    go : (x : Bool) → cond (x && false) (some (get_or s (p + 5) 0)) none ≡ none
    go true = refl
    go false = refl
no_target s k p (inr m) = rw (numbered_clause_is s p m)

no_code : (s : List ℕ) (k n p : ℕ) → Numbered s p → code_at k n 0 (item_at s p) ≡ none
unfolding code_at
no_code s k n p (inl m) = rw (numbered_mapping_is s p m)
no_code s k n p (inr m) = rw (numbered_clause_is s p m, ne_eqb (get_or s (p + 5) 0) 0 (λ z. omega (arith, m.number))) (go (eqb (get_or s (p + 3) 0) k) (eqb (get_or s (p + 4) 0) n))
  where
    go : (x y : Bool) → cond (x && (y && false)) (some (slice (p + 6) (field_end s p) s)) none ≡ none
    go true true = refl
    go true false = refl
    go false y = refl

-- A plain one is.
plain_target : (s : List ℕ) (k p : ℕ) → IsMapping s p → target_at k 0 (item_at s p) ≡ cond (eqb (get_or s (p + 3) 0) k) (some (get_or s (p + 4) 0)) none
unfolding target_at
plain_target s k p m = rw (mapping_is s p m) (go (eqb (get_or s (p + 3) 0) k))
  where
    go : (x : Bool) → cond (x && true) (some (get_or s (p + 4) 0)) none ≡ cond x (some (get_or s (p + 4) 0)) none
    go true = refl
    go false = refl

plain_code : (s : List ℕ) (k n p : ℕ) → IsClause s p
    → code_at k n 0 (item_at s p) ≡ cond (eqb (get_or s (p + 3) 0) k && eqb (get_or s (p + 4) 0) n) (some (slice (p + 5) (field_end s p) s)) none
unfolding code_at
plain_code s k n p m = rw (clause_is s p m) (go (eqb (get_or s (p + 3) 0) k) (eqb (get_or s (p + 4) 0) n))
  where
    go : (x y : Bool) → cond (x && (y && true)) (some (slice (p + 5) (field_end s p) s)) none ≡ cond (x && y) (some (slice (p + 5) (field_end s p) s)) none
    go true true = refl
    go true false = refl
    go false y = refl

clause_target : (s : List ℕ) (k p : ℕ) → IsClause s p → target_at k 0 (item_at s p) ≡ none
unfolding target_at
clause_target s k p c = rw (clause_is s p c)

mapping_code : (s : List ℕ) (k n p : ℕ) → IsMapping s p → code_at k n 0 (item_at s p) ≡ none
unfolding code_at
mapping_code s k n p m = rw (mapping_is s p m)

-- Mappings and clauses.
groups : (s : List ℕ) → Groups 0x22 s (item_whole s) (IsMapping s) (IsClause s) (Numbered s)
groups s = record {
  facts = item_groups s;
  kind = λ p c. c.source;
  kind_key = mapping_key s;
  name_key = clause_key s;
  no_key = numbered_key s;
}

-- The index that was built.
module _ (s index : List ℕ) (bytes : (i : ℕ) → get_or s i 0 < 256) (short : length s ≤ 32768)
    (zeros : (j : ℕ) → get_or index j 0 ≡ 0) (b : Body) (e : body_of s ≡ some b) where
  abbrev built : List ℕ
  built = put_all 0x22 s index (places s)

  held : HoldsItems s b
  held = holds_items s b e

  at_key : (j : ℕ) → j < length index → get_or built j 0 ≡ place_of 0x22 s j (places s)
  at_key j h = puts_place 0x22 s (places s) index j h (zeros j)

  -- A place in the index is that of a whole item of the key.
  found_at : (j : ℕ) → j < length index → 0 < get_or built j 0 → (p : ℕ) × (get_or built j 0 ≡ p + 1) × (slot_at 0x22 s p ≡ j) × (item_whole s p ≡ true)
  found_at j h z =
      let k = at_key j h in
      let f = found 0x22 (item_whole s) s j (places s) held.whole (rw k at z) in
      (f.0, k ∙ f.1, f.2, f.3)

  module _ (room : 32 ≤ length index) where
    target_in_lem : (k place : ℕ) → place ≡ get_or built (kind_key k) 0 → k < 32 → 0 < place → (place + 3 < length s) × (get_or s (place + 3) 0 < 32)
    target_in_lem k place i h z =
        let f = found_at k (omega arith) (rw i at z) in
        let c = of_first 0x22 s (item_whole s) (IsMapping s) (IsClause s) (Numbered s) (groups s) f.0 f.3 (rw f.2 h) in
        let d : place + 3 ≡ f.0 + 4 = omega (arith, i, f.1) in
        let g = c.fits in
        (omega arith, rw d c.target)

    mapping_built : (k : ℕ) → k < 32 → mapping_of b k 0 ≡ target_before s (get_or built (kind_key k) 0)
    unfolding mapping_of
    mapping_built k h =
        ap (first (target_at k 0)) (sym held.items)
        ∙ (looked_kind 0x22 s (item_whole s) (IsMapping s) (IsClause s) (Numbered s) (groups s) (item_at s) (target_at k 0) (target_before s) refl
        (λ p. get_or s (p + 4) 0) (λ p. rw add-one refl) k h
        (plain_target s k) (λ p c. clause_target s k p c) (no_target s k) (places s) held.whole
        ∙ ap (target_before s) (sym (at_key k (omega arith))))

  module _ (long : length index ≡ 8224) where
    code_in : (k p place : ℕ) → place ≡ get_or built (production_key k p) 0 → k < 32 → p < 256 → 0 < place → (2 ≤ pair_at s place) × (place + 2 + pair_at s place ≤ length s)
    unfolding field_end
    code_in k p place i h j z =
        let f = found_at (production_key k p) (omega arith) (rw i at z) in
        let c = of_second 0x22 s (item_whole s) (IsMapping s) (IsClause s) (Numbered s) (groups s) f.0 f.3 (rw f.2 (omega arith)) (rw f.2 (omega arith)) in
        let d : place ≡ f.0 + 1 = i ∙ f.1 in
        let g = c.past in
        let l = c.ends in
        rw d (omega arith, omega arith)

    index_built : IndexedItems built s b
    unfolding clause_of
    index_built =
        let room : 32 ≤ length index = omega arith in
        record {
          sound = record {
            long = puts_length 0x22 s (places s) index ∙ long;
            short = short;
            target = λ k h z. target_in_lem room k _ refl h z;
            code = λ k p h j z. code_in k p _ refl h j z;
          };
          items = e;
          mapping = mapping_built room;
          clause = λ k p h j.
              ap (first (code_at k p 0)) (sym held.items)
              ∙ (looked_name 0x22 s (item_whole s) (IsMapping s) (IsClause s) (Numbered s) (groups s) (item_at s) (code_at k p 0) (code_before s) refl
              (λ q. slice (q + 5) (field_end s q) s) (λ q. rw add-one refl) k h p j bytes
              (λ q c. mapping_code s k p q c) (plain_code s k p) (no_code s k p) (places s) held.whole
              ∙ ap (code_before s) (sym (at_key (production_key k p) (omega arith))));
        }

    -- What `build_items` returns.
    pub build_is : {after : List ℕ} → after ≡ built → IndexedItems after s b
    build_is h = rw h index_built

-- map_kind
module _ (s index : List ℕ) (k place : ℕ) (ep : place ≡ get_or index k 0) where
  pub kind_none : place ≡ 0 → 0 ≡ mapped_at s index k
  unfolding mapped_at
  kind_none h = cc (eq-eqb place 0 h)

  pub kind_there : (place ≡ 0 → ⊥) → get_or s (place + 3) 0 ≡ mapped_at s index k
  unfolding mapped_at
  kind_there h = cc (ne_eqb place 0 h)

  pub kind_in : SoundItems index s → k < 32 → (place ≡ 0 → ⊥) → (place + 3 < length s) × (get_or s (place + 3) 0 < 32)
  kind_in z h n = rw ep (z.target k h (rw (← ep) (omega arith)))

-- What is looked up is what a kind maps to by number 0.
pub mapped_is : (s index : List ℕ) (b : Body) → IndexedItems index s b → (k : ℕ) → k < 32 → mapped_at s index k ≡ mapped b k 0
unfolding mapped
mapped_is s index b z k h = go (get_or index k 0) refl (z.mapping k h)
  where
    go : (place : ℕ) → get_or index k 0 ≡ place → mapping_of b k 0 ≡ target_before s place → mapped_at s index k ≡ Option.get_or (mapping_of b k 0) 0
    go zero d e = sym (kind_none s index k 0 (sym d) refl) ∙ rw e
    go (suc p) d e =
        let i : suc p + 3 ≡ p + 4 = omega arith in
        sym (kind_there s index k (suc p) (sym d) (λ y. omega arith)) ∙ rw (e, i)

-- What a kind maps to is a kind.
pub mapped_kind : (s index : List ℕ) → SoundItems index s → (k : ℕ) → k < 32 → mapped_at s index k < 32
unfolding mapped_at
mapped_kind s index z k h =
    by_test (eqb (get_or index k 0) 0)
    (λ e. rw e (omega arith))
    (λ e.
    let n : get_or index k 0 ≡ 0 → ⊥ = eqb-false _ _ e in
    let i : 0 < get_or index k 0 = omega arith in
    rw e (z.target k h i).1)

-- known_at
module _ (first : ℕ) (s index : List ℕ) (p tag : ℕ) (et : tag ≡ get_or s p 0) where
  pub known_first : tag ≡ first → true ≡ known_at first s index p
  unfolding known_at
  known_first h = cc (eq-eqb tag first h)

  module _ (other : tag ≡ first → ⊥) (key : ℕ) (ek : key ≡ key_at first s p) where
    pub known_in : not (eqb (get_or index key 0) 0) ≡ known_at first s index p
    unfolding known_at
    known_in = cc (ne_eqb tag first other)

    pub known_out : length index ≤ key → false ≡ known_at first s index p
    known_out h = sym (rw (get_or-eq_default {A = ℕ} index 0 {n = key} h)) ∙ known_in

-- A place is there if it is not 0.
pub there : {A : Type 0} (before : ℕ → Option A) → before 0 ≡ none → ((p : ℕ) → is_some (before (suc p)) ≡ true)
    → (place : ℕ) → not (eqb place 0) ≡ is_some (before place)
there before empty full zero = rw empty
there before empty full (suc p) = rw (ne_eqb (suc p) 0 (λ h. omega arith)) (sym (full p))
