-- Products that are added to the places of a sum: a law for each turn and each return of `add_leaf` and `add_row`.
use Prim.Native.Nat.{ℕ, zero, suc, ◌+◌, ◌<◌, ◌≤◌}
use mathlib.Core.Path.{◌≡◌, refl, sym, ap, ◌∙◌}
use mathlib.Core.Bool.{true}
use mathlib.Core.List.{List}
use native.Mathlib.Omega.{arith}
use lib.ListN.{length, get_or, set, length-set}
use lib.Seq.{get_or-set_same, get_or-set_other}
use lib.IntN.{ℤ, pos, nat_abs, ◌+ℤ◌, ◌*ℤ◌, +ℤ_idr, *ℤ-zero}
use lib.Dec.{eqb}
use mir.Syntax.{w64}
use mir.Val.{to_z, of_z}
use borrow.Author.Tests.{eq-eqb, ne_eqb, eqb-true, eqb-false}
use Rattle.format_fields.specs.Fields.{pair_at}
use Rattle.format_fields.proofs.Truth.{by_test}
use Rattle.score_tree.specs.Figures.{is_figure}
use Rattle.score_tree.specs.Linear.{constant, used}
use Rattle.score_tree.specs.Inner.Terms.{leaf_form, LeafIn, Asked, Added, AddsLeaf}
use Rattle.score_tree.proofs.Integers.{back, between_near}

-- A place of a sum, as the machine reads it.
module _ {factor : ℤ} {count : ℕ} {sum : List ℤ} (a : Asked factor count sum) where
  pub place_back : (j : ℕ) → to_z w64 (of_z w64 (get_or sum j (pos 0))) ≡ get_or sum j (pos 0)
  place_back j = let h = a.room j in back w64 (get_or sum j (pos 0)) (omega arith)

  pub place_near : (j : ℕ) → nat_abs (to_z w64 (of_z w64 (get_or sum j (pos 0)))) ≤ 40000000000000000
  place_near j = rw (place_back j) (a.room j)

pub asked_as : {factor other : ℤ} {count : ℕ} {sum : List ℤ} → other ≡ factor → Asked factor count sum → Asked other count sum
asked_as e a = rw e a

-- The same for places that are equal.
pub added_as : {place other : ℕ → ℤ} {factor : ℤ} {count : ℕ} {before after : List ℤ} → ((j : ℕ) → j < count → place j ≡ other j)
    → Added place factor count before after → Added other factor count before after
added_as {factor = factor} {before = before} same h = record {
  long = h.long;
  sums = λ j i. h.sums j i ∙ ap (λ (z : ℤ). get_or before j (pos 0) +ℤ factor *ℤ z) (same j i);
  others = h.others;
  near = λ j i. rw (← same j i) (h.near j i);
}

-- A factor times 0 changes nothing.
module _ (place : ℕ → ℤ) (factor : ℤ) (before : List ℤ) where
  nothing_added : (j : ℕ) → place j ≡ pos 0 → get_or before j (pos 0) ≡ get_or before j (pos 0) +ℤ factor *ℤ place j
  nothing_added j e =
      let z : factor *ℤ place j ≡ pos 0 = ap (λ (v : ℤ). factor *ℤ v) e ∙ *ℤ-zero factor in
      sym (ap (λ (v : ℤ). get_or before j (pos 0) +ℤ v) z ∙ +ℤ_idr (get_or before j (pos 0)))

  zero_near : (j : ℕ) → place j ≡ pos 0 → nat_abs (place j) ≤ 65535
  zero_near j e = rw e (omega arith)

  pub added_none : (count : ℕ) → ((j : ℕ) → j < count → place j ≡ pos 0) → Added place factor count before before
  added_none count z = record { long = refl; sums = λ j h. nothing_added j (z j h); others = λ j h. refl; near = λ j h. zero_near j (z j h) }

  -- All places but n are 0.
  pub added_one : (count n : ℕ) (x : ℤ) → n < count → n < length before → ((j : ℕ) → (j ≡ n → ⊥) → place j ≡ pos 0) → nat_abs (place n) ≤ 65535
      → x ≡ get_or before n (pos 0) +ℤ factor *ℤ place n → Added place factor count before (set before n x)
  added_one count n x h i z small ex = record {
    long = length-set before n x;
    sums = λ j l.
        by_test (eqb j n)
        (λ q. let e = eqb-true j n q in rw e (get_or-set_same before n x (pos 0) i ∙ ex))
        (λ q. let d = eqb-false j n q in get_or-set_other before n j x (pos 0) d ∙ nothing_added j (z j d));
    others = λ j l. get_or-set_other before n j x (pos 0) (λ e. absurd (omega arith));
    near = λ j l.
        by_test (eqb j n)
        (λ q. let e = eqb-true j n q in rw e small)
        (λ q. zero_near j (z j (eqb-false j n q)));
  }

-- The form of a token, and that of an argument.
constant_other : (z : ℤ) (j : ℕ) → (j ≡ 0 → ⊥) → constant z j ≡ pos 0
unfolding constant
constant_other z zero h = absurd (h refl)
constant_other z (suc j) h = refl

used_other : (n j : ℕ) → (j ≡ n → ⊥) → used n j ≡ pos 0
unfolding used
used_other n zero h = refl
used_other n (suc j) h = rw (ne_eqb n (suc j) (λ e. h (sym e))) refl

used_here : (n : ℕ) → 0 < n → used n n ≡ pos 1
unfolding used
used_here zero h = absurd (omega arith)
used_here (suc j) h = rw (eq-eqb (suc j) (suc j) refl) refl

-- add_leaf
module _ (b : List ℕ) (at : ℕ) where
  pub token_in : LeafIn b at → get_or b at 0 ≡ 2 → at + 3 ≤ length b
  token_in h t = let k = h.inside in let m : at + 3 ≤ length b = rw (eq-eqb _ _ t) at k in m

  pub argument_in : LeafIn b at → (get_or b at 0 ≡ 2 → ⊥) → at + 2 ≤ length b
  argument_in h t = let k = h.inside in let m : at + 2 ≤ length b = rw (ne_eqb _ _ t) at k in m

  pub leaf_in : LeafIn b at → at + 2 ≤ length b
  leaf_in h = by_test (eqb (get_or b at 0) 2)
      (λ y. let m = token_in h (eqb-true _ _ y) in omega arith)
      (λ y. argument_in h (eqb-false _ _ y))

  token_form : get_or b at 0 ≡ 2 → (j : ℕ) → constant (pos (pair_at b (at + 1))) j ≡ leaf_form b at j
  unfolding leaf_form
  token_form t j = rw (eq-eqb _ _ t) refl

  argument_form : (get_or b at 0 ≡ 2 → ⊥) → (j : ℕ) → used (get_or b (at + 1) 0) j ≡ leaf_form b at j
  unfolding leaf_form
  argument_form t j = rw (ne_eqb _ _ t) refl

  module _ (t : get_or b at 0 ≡ 2 → ⊥) (n : ℕ) (en : n ≡ get_or b (at + 1) 0) {factor : ℤ} {count : ℕ} {before : List ℤ} where
    used_as : {after : List ℤ} → Added (used n) factor count before after → AddsLeaf b at factor count before after (at + 2)
    used_as h = record {
      end = rw (ne_eqb _ _ t) refl;
      added = added_as (λ j i. ap (λ (m : ℕ). used m j) en ∙ argument_form t j) h;
    }

    pub leaf_past : count ≤ n → AddsLeaf b at factor count before before (at + 2)
    leaf_past h = used_as (added_none _ factor before count (λ j l. used_other n j (λ e. absurd (omega arith))))

  -- x is the sum that the code puts; s, f and z are what the machine reads of the sum before, the factor and what is added
  module _ {factor : ℤ} {count : ℕ} {before : List ℤ} (a : Asked factor count before) {s f z x : ℤ} (ef : f ≡ factor) (ex : x ≡ s +ℤ f *ℤ z) where
    sum_is : (n : ℕ) (y : ℤ) → s ≡ get_or before n (pos 0) → z ≡ y → x ≡ get_or before n (pos 0) +ℤ factor *ℤ y
    sum_is n y es ez = ex ∙ rw (es, ef, ez) refl

    pub leaf_token : get_or b at 0 ≡ 2 → s ≡ get_or before 0 (pos 0) → (v : ℕ) → v ≡ pair_at b (at + 1) → v < 65536 → z ≡ pos v
        → AddsLeaf b at factor count before (set before 0 x) (at + 3)
    unfolding constant
    leaf_token t es v ev hv ez =
        let h = a.some in
        let d = a.long in
        let sum = sum_is 0 (pos (pair_at b (at + 1))) es (ez ∙ ap pos ev) in
        let whole : Added (constant (pos (pair_at b (at + 1)))) factor count before (set before 0 x) =
        added_one _ factor before count 0 x h (omega arith) (constant_other (pos (pair_at b (at + 1)))) (omega arith) sum in
        record { end = rw (eq-eqb _ _ t) refl; added = added_as (λ j i. token_form t j) whole }

    pub leaf_argument : LeafIn b at → (get_or b at 0 ≡ 2 → ⊥) → (n : ℕ) → n ≡ get_or b (at + 1) 0 → n < count → s ≡ get_or before n (pos 0) → z ≡ pos 1
        → AddsLeaf b at factor count before (set before n x) (at + 2)
    leaf_argument k t n en h es ez =
        let m = a.few in
        let d = a.long in
        let one = used_here n (rw en (k.counted t)) in
        used_as t n en (added_one _ factor before count n x h (omega arith) (used_other n) (rw one (omega arith)) (sum_is n (used n n) es (ez ∙ sym one)))

-- Where the loop of `add_row` stands: the places before j fit two bytes, and are added.
pub record Adding (row : List ℤ) (factor : ℤ) (before after : List ℤ) (j : ℕ) : Type 0 where
  pub fits : (i : ℕ) → i < j → is_figure (get_or row i (pos 0)) ≡ true
  pub added : Added (λ i. get_or row i (pos 0)) factor j before after

-- A figure is in the range of scores.
pub figure_small : (z : ℤ) → is_figure z ≡ true → nat_abs z ≤ 1000000000
figure_small z f = let n = between_near 32767 32767 z f (omega arith) in omega arith

-- y is what the machine reads of a place of the row, s of one of the sum; g is the factor as it was handed in.
module _ {row : List ℤ} {factor : ℤ} {before after : List ℤ} {j : ℕ} (v : Adding row factor before after j) where
  pub adding_back : {g : ℤ} {count : ℕ} → Asked g count before → to_z w64 (of_z w64 (get_or after j (pos 0))) ≡ get_or after j (pos 0)
  adding_back a = rw (v.added.others j (omega arith)) (place_back a j)

  pub adding_near : {g : ℤ} {count : ℕ} → Asked g count before → nat_abs (to_z w64 (of_z w64 (get_or after j (pos 0)))) ≤ 40000000000000000
  adding_near a = rw (v.added.others j (omega arith)) (place_near a j)

  pub adding_next : j < length after → (y s x : ℤ) → y ≡ get_or row j (pos 0) → is_figure y ≡ true → s ≡ get_or after j (pos 0) → x ≡ s +ℤ factor *ℤ y
      → Adding row factor before (set after j x) (j + 1)
  adding_next h y s x ey f es ex =
      let a = v.added in
      let here : is_figure (get_or row j (pos 0)) ≡ true = rw (← ey) f in
      let near : nat_abs (get_or row j (pos 0)) ≤ 65535 = let n = between_near 32767 32767 (get_or row j (pos 0)) here (omega arith) in omega arith in
      let sum : x ≡ get_or before j (pos 0) +ℤ factor *ℤ get_or row j (pos 0) =
      ex ∙ (ap (λ (k : ℤ). k +ℤ factor *ℤ y) (es ∙ a.others j (omega arith)) ∙ ap (λ (k : ℤ). get_or before j (pos 0) +ℤ factor *ℤ k) ey) in
      record {
        fits = λ i l.
            by_test (eqb i j)
            (λ q. let e = eqb-true i j q in rw e here)
            (λ q. let d = eqb-false i j q in v.fits i (omega arith));
        added = record {
          long = length-set after j x ∙ a.long;
          sums = λ i l.
              by_test (eqb i j)
              (λ q. let e = eqb-true i j q in rw e (get_or-set_same after j x (pos 0) h ∙ sum))
              (λ q. let d = eqb-false i j q in get_or-set_other after j i x (pos 0) d ∙ a.sums i (omega arith));
          others = λ i l. get_or-set_other after j i x (pos 0) (λ e. absurd (omega arith)) ∙ a.others i (omega arith);
          near = λ i l.
              by_test (eqb i j)
              (λ q. let e = eqb-true i j q in rw e near)
              (λ q. let d = eqb-false i j q in a.near i (omega arith));
        };
      }
