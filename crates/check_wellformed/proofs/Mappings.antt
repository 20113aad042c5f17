-- The mapping by place: a law for each return of the functions on it, and what the tests say of the translation.
use Prim.Native.Nat.{ℕ, zero, suc, ◌+◌, ◌-◌, ◌*◌, ◌<◌, ◌≤◌}
use mathlib.Core.Path.{◌≡◌, refl, sym, ap, ◌∙◌}
use mathlib.Core.Logic.{inl, inr}
use mathlib.Core.Bool.{Bool, true, false, not, ◌&&◌, ◌||◌, beq}
use mathlib.Core.List.{List, [], ◌∷◌, map}
use mathlib.Core.Option.{some}
use native.Mathlib.Omega.{arith}
use lib.ListN.{length, get_or}
use Rattle.std.specs.Prelude.{Option, Some, None, SomeIff, nat_eq}
use Rattle.std.specs.List.{list_all, range_with_len}
use Rattle.std.specs.Option.{ForSome}
use borrow.Author.Rules.{rules}
use lib.Dec.{eqb}
use borrow.Author.Tests.{ne_eqb, eqb-true}
use Rattle.format_fields.specs.Lists.{all, is_some, count_up}
use Rattle.format_fields.specs.Inner.Places.{field_end, is_whole, places_from, places}
use Rattle.format_fields.proofs.Lists.{all_true, all_and}
use Rattle.format_fields.proofs.Places.{places_next}
use Rattle.format_fields.proofs.Truth.{Mem, by_test, false_true, and_both, count_mem}
use Rattle.format_language.specs.Language.{range_within, is_in}
use Rattle.format_language.specs.Inner.Entries.{size_at, class_range, IsClass}
use Rattle.tree_reader.specs.Inner.Index.{range_before, Sound}
use Rattle.tree_reader.specs.Inner.Positions.{kind_before, mapped_in}
use Rattle.format_translation.specs.Translation.{Item, mapping, Body, Translation, mapping_of}
use Rattle.format_translation.specs.TranslationFile.{body_of}
use Rattle.format_translation.specs.WellFormed.{kinds, kinds_mapped, reaches_target, keeps_range, class_kept, mapping_fits}
use Rattle.format_translation.specs.Inner.Items.{mapping_whole, numbered_mapping_whole, item_good, item_whole, item_at, ItemFacts, plain_mapping, plain_clause, numbered_mapping_lem, numbered_clause_lem, is_clause_tag, items_whole}
use Rattle.check_wellformed.specs.Inner.Ready.{Ready, index_of}
use Rattle.check_wellformed.specs.Inner.Tests.{mapped_if, MapsAt, reaches_at, place_before, range_kept, kept_at, fits_at, is_clause_at}
use Rattle.format_translation.proofs.Items.{item_facts, mapping_is, numbered_mapping_is, holds_items}
use Rattle.format_translation.proofs.Uses.{Front}
use Rattle.check_wellformed.proofs.Source.{source_indexed}
use Rattle.check_wellformed.proofs.Coded.{clause_at_lem}

-- mapped_if
pub marked_if : (u : List ℕ) (table : List Bool) (k : ℕ) → beq (get_or table k false) (not (nat_eq (get_or u (k * 256) 0) 0)) ≡ mapped_if u table k
unfolding mapped_if
marked_if u table k = beq_comm (get_or table k false) (not (nat_eq (get_or u (k * 256) 0) 0))
  where
    beq_comm : (a b : Bool) → beq a b ≡ beq b a
    beq_comm true true = refl
    beq_comm true false = refl
    beq_comm false true = refl
    beq_comm false false = refl

-- kinds_mapped
pub all_kinds : (f : ℕ → Bool) → list_all f (range_with_len 0 32) ≡ all f (count_up 32 0)
unfolding count_up all
all_kinds f = go (count_up 32 0)
  where
    go : (l : List ℕ) → list_all f l ≡ all f l
    go [] = refl
    go (k ∷ l) = ap (λ (b : Bool). f k && b) (go l)

-- reaches_at
module _ (b : List ℕ) (p : ℕ) (marked reached : List Bool) (i : ℕ) (ei : i ≡ get_or b (p + 3) 0) where
  pub reaches_not : get_or marked i false ≡ false → false ≡ reaches_at b marked reached p
  unfolding reaches_at
  reaches_not h = cc

  pub reaches_both : get_or marked i false ≡ true → (e : ℕ) → e ≡ field_end b p → (j : ℕ) → j ≡ get_or b (e - 1) 0
      → get_or reached j false ≡ reaches_at b marked reached p
  unfolding reaches_at
  reaches_both h e ee j ej = cc

-- range_kept
module _ (s : List ℕ) (place : Option ℕ) (t : List ℕ) (goal : Option ℕ) where
  pub range_free : place ≡ None → true ≡ range_kept s place t goal
  unfolding range_kept
  range_free h = rw h refl

  module _ {p : ℕ} (ep : place ≡ Some p) where
    pub range_none : goal ≡ None → false ≡ range_kept s place t goal
    unfolding range_kept
    range_none h = rw (ep, h) refl

    pub range_there : {q : ℕ} → goal ≡ Some q → {x : Bool} → x ≡ range_within (class_range s p) (class_range t q) → x ≡ range_kept s place t goal
    unfolding range_kept
    range_there h ex = rw (ep, h) ex

-- class_kept
pub kept_is : (s is t it b : List ℕ) (p e : ℕ) → e ≡ field_end b p → (i j : ℕ) {place goal : Option ℕ} → i ≡ get_or b (p + 3) 0 → place ≡ place_before (get_or is i 0)
    → j ≡ get_or b (e - 1) 0 → goal ≡ place_before (get_or it j 0) → (x : Bool) → x ≡ range_kept s place t goal → x ≡ kept_at s is t it b p
unfolding kept_at
kept_is s is t it b p e ee i j ei ep ej eg x ex = cc

-- What is below a number of an index is the place before it.
pub before_is : (n : ℕ) (o : Option ℕ) → SomeIff o (1 ≤ n) (n - 1) → o ≡ place_before n
before_is zero o w = search rules
before_is (suc n) o w = search rules

-- The place of a class is that of a whole one.
pub place_in : (it t : List ℕ) → Sound it t → (i k : ℕ) {place : Option ℕ} → i ≡ k → k < 32 → place ≡ place_before (get_or it i 0) → ForSome place (IsClass t)
place_in it t z i k ei h e = λ p q. go (get_or it k 0) refl p (sym (e ∙ ap (λ (x : ℕ). place_before (get_or it x 0)) ei) ∙ q)
  where
    go : (n : ℕ) → get_or it k 0 ≡ n → (p : ℕ) → place_before n ≡ Some p → IsClass t p
    go zero d p q = cc
    go (suc n) d p q =
        let i : n ≡ p = cc in
        let j : get_or it k 0 - 1 ≡ p = omega arith in
        rw (← j) (z.class k h (omega arith))

-- The mapping at p, by its place.
module _ (b : List ℕ) (p : ℕ) (w : item_whole b p ≡ true) where
  ends_plain : get_or b p 0 ≡ 0x22 → field_end b p ≡ p + 5
  unfolding item_whole item_good mapping_whole field_end
  ends_plain t =
      let a = and_both (is_whole b p) (item_good b p) w in
      let q : mapping_whole b p ≡ true = rw t at a.1 in
      let c = and_both (eqb (size_at b p) 2) _ q in
      let n = eqb-true (size_at b p) 2 c.0 in
      omega arith

  ends_numbered : get_or b p 0 ≡ 0x28 → field_end b p ≡ p + 6
  unfolding item_whole item_good numbered_mapping_whole field_end
  ends_numbered t =
      let a = and_both (is_whole b p) (item_good b p) w in
      let q : numbered_mapping_whole b p ≡ true = rw t at a.1 in
      let c = and_both (eqb (size_at b p) 3) _ q in
      let n = eqb-true (size_at b p) 3 c.0 in
      omega arith

  pub mapping_at : is_clause_tag (get_or b p 0) ≡ false
      → MapsAt b p × (j : ℕ) × (item_at b p ≡ mapping (get_or b (p + 3) 0) j (get_or b (field_end b p - 1) 0))
  mapping_at t = go (item_facts b p w)
    where
      go : ItemFacts b p → MapsAt b p × (j : ℕ) × (item_at b p ≡ mapping (get_or b (p + 3) 0) j (get_or b (field_end b p - 1) 0))
      go (plain_mapping m) =
          let e = ends_plain m.tag in
          let i : field_end b p - 1 ≡ p + 4 = omega arith in
          let g = m.fits in
          (record { past = omega arith; ends = omega arith; source = m.source; target = rw i m.target }, 0, rw i (mapping_is b p m))
      go (plain_clause m) = false_true (sym (rw m.tag at t))
      go (numbered_mapping_lem m) =
          let e = ends_numbered m.tag in
          let i : field_end b p - 1 ≡ p + 5 = omega arith in
          let g = m.fits in
          (record { past = omega arith; ends = omega arith; source = m.source; target = rw i m.target }, get_or b (p + 4) 0, rw i (numbered_mapping_is b p m))
      go (numbered_clause_lem m) = false_true (sym (rw m.tag at t))

-- mappings_fit
module _ (s is t it b : List ℕ) (marked reached : List Bool) where
  module _ (p : ℕ) (tag : is_clause_tag (get_or b p 0) ≡ false) (x : Bool) (ex : x ≡ reaches_at b marked reached p) where
    pub fits_not : x ≡ false → false ≡ fits_at s is t it b marked reached p
    unfolding fits_at
    fits_not h = rw (tag, ← ex, h)

    pub fits_kept : x ≡ true → (y : Bool) → y ≡ kept_at s is t it b p → y ≡ fits_at s is t it b marked reached p
    unfolding fits_at
    fits_kept h y ey = rw (tag, ← ex, h) ey

  -- Clauses are left alone.
  clauses_fit_lem : (l : List ℕ) → items_whole b true l ≡ true → all (fits_at s is t it b marked reached) l ≡ true
  unfolding all items_whole fits_at
  clauses_fit_lem [] h = refl
  clauses_fit_lem (p ∷ l) h =
      let u = and_both (item_whole b p && (is_clause_tag (get_or b p 0) || false)) (items_whole b (is_clause_tag (get_or b p 0)) l) h in
      let v = and_both (item_whole b p) (is_clause_tag (get_or b p 0) || false) u.0 in
      let c = only (is_clause_tag (get_or b p 0)) v.1 in
      rw c (clauses_fit_lem l (rw c at u.1))
    where
      only : (a : Bool) → (a || false) ≡ true → a ≡ true
      only true e = refl
      only false e = false_true e

  pub front_fits : (p : ℕ) → Front b p → p < length b → is_clause_tag (get_or b p 0) ≡ true → (x : Bool)
      → all (fits_at s is t it b marked reached) (places_from b p) ≡ x → true ≡ x
  unfolding all items_whole fits_at
  front_fits p w here c x inv =
      let u = rw (places_next b p here, c) at w in
      let v = and_both (item_whole b p && true) (items_whole b true (places_from b (field_end b p))) u in
      sym (clauses_fit_lem (places_from b (field_end b p)) v.1) ∙ (rw (places_next b p here, c) at inv)

-- What the tests say of the translation.
pub all_alike : {A : Type 0} (ok f : ℕ → Bool) (at : ℕ → A) (g : A → Bool) → ((p : ℕ) → ok p ≡ true → f p ≡ g (at p))
    → (l : List ℕ) → all ok l ≡ true → all f l ≡ all g (map at l)
unfolding all
all_alike ok f at g same [] h = refl
all_alike ok f at g same (p ∷ l) h =
    let w = all_true ok p l h in rw (same p w.0, all_alike ok f at g same l w.1)

pub items_alike : (s : List ℕ) (b : Body) → body_of s ≡ some b → (f : ℕ → Bool) (g : Item → Bool)
    → ((p : ℕ) → item_whole s p ≡ true → f p ≡ g (item_at s p)) → all f (places s) ≡ all g b
items_alike s b e f g same =
    let h = holds_items s b e in
    all_alike (item_whole s) f (item_at s) g same (places s) h.whole ∙ ap (all g) h.items

range_same : (s : List ℕ) (place : ℕ) (t : List ℕ) (goal : ℕ)
    → range_kept s (place_before place) t (place_before goal) ≡ keeps_range (range_before s place) (range_before t goal)
unfolding range_kept
range_same s zero t goal = refl
range_same s (suc p) t zero = refl
range_same s (suc p) t (suc q) = refl

module _ (s t it b u : List ℕ) (f : Translation) (z : Ready s t it b u f) (bytes : (i : ℕ) → get_or s i 0 < 256) where
  -- A kind has an entry by number 0 if it is mapped by it.
  is_there : (k : ℕ) → k < 32 → not (eqb (get_or u (k * 256) 0) 0) ≡ is_some (mapping_of f.body k 0)
  unfolding mapped_in
  is_there k h =
      let i : k * 256 + 0 ≡ k * 256 = omega arith in
      let e : kind_before (get_or u (k * 256) 0) ≡ mapping_of f.body k 0 = rw i at (z.uses.is k 0 h (omega arith)) in
      rw (← e) (go (get_or u (k * 256) 0))
    where
      go : (x : ℕ) → not (eqb x 0) ≡ is_some (kind_before x)
      go zero = refl
      go (suc x) = rw (ne_eqb (suc x) 0 (λ h. omega arith))

  module _ (marked : List Bool) (em : (k : ℕ) → k < 32 → get_or marked k false ≡ is_in f.source k) where
    mapped_test : all (mapped_if u marked) (count_up 32 0) ≡ kinds_mapped f
    unfolding kinds_mapped kinds mapped_if all
    mapped_test = on (count_up 32 0) (λ k m. (count_mem 32 0 k m).1)
      where
        on : (l : List ℕ) → ((k : ℕ) → Mem k l → k < 32)
            → all (λ k. beq (not (eqb (get_or u (k * 256) 0) 0)) (get_or marked k false)) l
            ≡ all (λ k. beq (is_some (mapping_of f.body k 0)) (is_in f.source k)) l
        on [] h = refl
        on (k ∷ l) h =
            let i = h k (inl refl) in
            rw (is_there k i, em k i, on l (λ j m. h j (inr m)))

    module _ (reached : List Bool) (er : (k : ℕ) → k < 32 → get_or reached k false ≡ is_in f.target k) where
      fits_is : (p : ℕ) → item_whole b p ≡ true
          → fits_at s (index_of s) t it b marked reached p ≡ (reaches_target f (item_at b p) && class_kept f (item_at b p))
      unfolding fits_at reaches_at kept_at reaches_target class_kept is_clause_at
      fits_is p w =
          by_test (is_clause_tag (get_or b p 0))
          (λ c. rw (c, (clause_at_lem b p (rw (w, c))).is))
          (λ c.
          let (m, j, e) = mapping_at b p w c in
          let k : ℕ = get_or b (p + 3) 0 in
          let g : ℕ = get_or b (field_end b p - 1) 0 in
          rw (c, e, em k m.source, er g m.target, range_same s (get_or (index_of s) k 0) t (get_or it g 0), ← (source_indexed s t it b u f z bytes).range k m.source, ← z.target.range g m.target))

      fits_test : all (fits_at s (index_of s) t it b marked reached) (places b) ≡ (all (reaches_target f) f.body && all (class_kept f) f.body)
      fits_test =
          items_alike b f.body z.body (fits_at s (index_of s) t it b marked reached) (λ a. reaches_target f a && class_kept f a) fits_is
          ∙ all_and (reaches_target f) (class_kept f) f.body

      -- mapping_fits
      pub fits_items : (x : Bool) → x ≡ all (mapped_if u marked) (count_up 32 0) → x ≡ true
          → (y : Bool) → y ≡ all (fits_at s (index_of s) t it b marked reached) (places b) → y ≡ mapping_fits f
      unfolding mapping_fits
      fits_items x ex h y ey = rw (← mapped_test, ← ex, h) (ey ∙ fits_test)

    pub fits_kinds : (x : Bool) → x ≡ all (mapped_if u marked) (count_up 32 0) → x ≡ false → false ≡ mapping_fits f
    unfolding mapping_fits
    fits_kinds x ex h = rw (← mapped_test, ← ex, h)
