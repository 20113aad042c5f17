-- Figures put in by position, and the end of a load: a law for each return of `load_end`, for each turn of `put_figures`.
use Prim.Native.Nat.{ℕ, ◌+◌, ◌*◌, ◌-◌, ◌<◌, ◌≤◌}
use mathlib.Core.Path.{◌≡◌, refl, sym, ◌∙◌}
use Rattle.std.specs.Prelude.{None}
use mathlib.Core.Bool.{Bool, true, false, ◌&&◌}
use Rattle.std.specs.Bool.{then_some}
use mathlib.Core.List.{List}
use native.Mathlib.Omega.{arith}
use lib.ListN.{length, get_or, set, length-set}
use lib.Seq.{get_or-set_same, get_or-set_other}
use lib.Dec.{eqb}
use lib.IntN.{ℤ, pos, nat_abs}
use borrow.Author.Tests.{eqb-true, eqb-false}
use Rattle.format_fields.specs.Fields.{pair_at}
use Rattle.format_fields.specs.Inner.Places.{field_end, is_whole, WholeEnd}
use Rattle.format_fields.proofs.Truth.{by_test, and_both}
use Rattle.check_operations.proofs.Reading.{two}
use lib.Pointwise.{pointwise}
use lib.ListN.{take, drop}
use Rattle.format_fields.proofs.Places.{end_whole, size_of}
use Rattle.score_tree.specs.Figures.{figure_at}
use Rattle.score_tree.specs.Inner.Kept.{Small, Put, is_load, LoadEnd}

pub small_set : (l : List ℤ) (i : ℕ) (v : ℤ) → i < length l → nat_abs v ≤ 32768 → Small l → Small (set l i v)
unfolding Small
small_set l i v h b n j = by_test (eqb j i)
    (λ q. let e = eqb-true j i q in rw (e, get_or-set_same l i v (pos 0) h) b)
    (λ q. rw (get_or-set_other l i j v (pos 0) (eqb-false j i q)) (n j))

pub put_next : (t : List ℕ) (from : ℕ) (before l : List ℤ) (at i count : ℕ) → Put t from before l at i → i < count → at + count ≤ length before
    → (v : ℤ) → v ≡ figure_at t (from + 2 * i) → nat_abs v ≤ 32768 → Put t from before (set l (at + i) v) at (i + 1)
put_next t from before l at i count w h k v e b =
    let n : length l ≡ length before = w.long in
    let a : at + i < length l = omega arith in
    record {
      long = length-set l (at + i) v ∙ w.long;
      put = λ j g. by_test (eqb j i)
          (λ q. let d = eqb-true j i q in rw (d, get_or-set_same l (at + i) v (pos 0) a) e)
          (λ q. let d = eqb-false j i q in get_or-set_other l (at + i) (at + j) v (pos 0) (λ z. d (omega arith)) ∙ w.put j (omega arith));
      below = λ j g. get_or-set_other l (at + i) j v (pos 0) (λ z. absurd (omega arith)) ∙ w.below j g;
      small = λ g. small_set l (at + i) v a b (w.small g);
    }

pub put_all : (t : List ℕ) (from : ℕ) (before l : List ℤ) (at i count : ℕ) → Put t from before l at i → count ≤ i → Put t from before l at count
put_all t from before l at i count w h = record { long = w.long; put = λ j g. w.put j (omega arith); below = w.below; small = w.small }

-- load_end: the tests of the code one by one.
pub and_true : (a b : Bool) {x : Bool} → a ≡ true → x ≡ b → x ≡ (a && b)
and_true a b h e = rw h e

pub and_false : (a b : Bool) {x : Bool} → a ≡ false → x ≡ a → x ≡ (a && b)
and_false a b h e = e ∙ rw h refl

-- Two bytes of each, compared.
same_pair : (t s : List ℕ) (i j n m : ℕ) → n ≡ i + 2 → m ≡ j + 2 → n ≤ length t → m ≤ length s
    → pointwise eqb (take (n - i) (drop i t)) (take (m - j) (drop j s)) ≡ (eqb (get_or t i 0) (get_or s j 0) && eqb (get_or t (i + 1) 0) (get_or s (j + 1) 0))
same_pair t s i j n m en em h k =
    let x : n - i ≡ 2 = omega arith in
    let y : m - j ≡ 2 = omega arith in
    rw (x, y, two t i (omega arith), two s j (omega arith)) (last (eqb (get_or t i 0) (get_or s j 0)) (eqb (get_or t (i + 1) 0) (get_or s (j + 1) 0)))
  where
    last : (a b : Bool) → (a && (b && true)) ≡ (a && b)
    last true true = refl
    last true false = refl
    last false b = refl

module _ (s : List ℕ) (p : ℕ) (t : List ℕ) (q : ℕ) where
  pub load_cut : is_whole t q ≡ false → LoadEnd s p t q None
  unfolding is_load
  load_cut h = rw h refl

  module _ (e end : ℕ) (ee : e ≡ field_end s p) (there : WholeEnd t q end) where
    size_is : eqb (end - q - 3) (2 * (e - p - 3)) ≡ eqb (pair_at t (q + 1)) (2 * pair_at s (p + 1))
    size_is = rw (size_of t q end there.is, size_of s p e ee) refl

    found : (v : Bool) → v ≡ is_load s p t q → LoadEnd s p t q (then_some v end)
    found true h = (sym h, there)
    found false h = sym h

    -- x and z are what the code knows after the size and after the two bytes
    module _ {x : Bool} (z : Bool) (ex : x ≡ (eqb (get_or t q 0) 0x24 && eqb (end - q - 3) (2 * (e - p - 3)))) where
      room : p + 5 ≤ e → x ≡ true → q + 5 ≤ length t
      room h k =
          let m : end - q - 3 ≡ 2 * (e - p - 3) = eqb-true _ _ (and_both (eqb (get_or t q 0) 0x24) (eqb (end - q - 3) (2 * (e - p - 3))) (sym ex ∙ k)).1 in
          let i = there.past in
          let f = there.fits in
          omega arith

      pub load_long : p + 5 ≤ e → e ≤ length s → x ≡ true → z ≡ pointwise eqb (take (q + 5 - (q + 3)) (drop (q + 3) t)) (take (p + 5 - (p + 3)) (drop (p + 3) s))
          → z ≡ (x && (eqb (get_or t (q + 3) 0) (get_or s (p + 3) 0) && eqb (get_or t (q + 4) 0) (get_or s (p + 4) 0)))
      load_long h l k e' = rw k (e' ∙ (same_pair t s (q + 3) (p + 3) (q + 5) (p + 5) (omega arith) (omega arith) (room h k) (omega arith) ∙ moved))
        where
          moved : (eqb (get_or t (q + 3) 0) (get_or s (p + 3) 0) && eqb (get_or t (q + 3 + 1) 0) (get_or s (p + 3 + 1) 0)) ≡ (eqb (get_or t (q + 3) 0) (get_or s (p + 3) 0) && eqb (get_or t (q + 4) 0) (get_or s (p + 4) 0))
          moved =
              let i : q + 3 + 1 ≡ q + 4 = omega arith in
              let j : p + 3 + 1 ≡ p + 4 = omega arith in
              rw (i, j) refl

      pub load_tested : z ≡ (x && (eqb (get_or t (q + 3) 0) (get_or s (p + 3) 0) && eqb (get_or t (q + 4) 0) (get_or s (p + 4) 0))) → LoadEnd s p t q (then_some z end)
      unfolding is_load
      load_tested ez =
          found z
          (ez
          ∙ rw (ex, size_is, end_whole t q end there)
          (grouped (eqb (get_or t q 0) 0x24) (eqb (pair_at t (q + 1)) (2 * pair_at s (p + 1))) (eqb (get_or t (q + 3) 0) (get_or s (p + 3) 0) && eqb (get_or t (q + 4) 0) (get_or s (p + 4) 0))))
        where
          grouped : (a b c : Bool) → ((a && b) && c) ≡ (a && (b && c))
          grouped true b c = refl
          grouped false b c = refl
