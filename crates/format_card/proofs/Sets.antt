-- A kind that is put into a set of lower kinds.
use Prim.Native.Nat.{ℕ, suc, ◌+◌, ◌*◌, ◌-◌, ◌/◌, ◌%◌, ◌^◌, ◌<◌, ◌≤◌}
use mathlib.Core.Path.{◌≡◌, refl, sym, ap, ◌∙◌}
use mathlib.Core.Bool.{Bool, true, false, ◌||◌}
use native.Mathlib.Nat.{pow-suc, add-mul-div_right, add-mul-mod_self_right}
use native.Mathlib.Omega.{arith}
use lib.Dec.{eqb, ltb}
use lib.Pow.{pow-add, pow_mono, pow_pos, high}
use borrow.Author.Tests.{eq-eqb, ne_eqb, ltb-true, ltb-false}
use Rattle.format_fields.proofs.Truth.{by_test}
use Rattle.format_card.specs.Inner.Sets.{in_set}

-- What is below a power has no bit from there on.
pub no_bit : (n k : ℕ) → n < 2 ^ k → in_set n k ≡ false
unfolding in_set
no_bit n k h =
    let z : 0 * 2 ^ k + n ≡ n = omega arith in
    let q : n / 2 ^ k ≡ 0 = ap (λ (m : ℕ). m / 2 ^ k) (sym z) ∙ high 0 k h in
    ne_eqb (n / 2 ^ k % 2) 1 (λ e. omega arith)

or_none : (a b : Bool) → b ≡ false → a ≡ (a || b)
or_none true b e = refl
or_none false b e = sym e

module _ (n a : ℕ) (below : n < 2 ^ a) (k : ℕ) where
  lower_bit : k < a → in_set (n + 2 ^ a) k ≡ in_set n k
  unfolding in_set
  lower_bit h =
      let d = a - suc k in
      let i : suc d + k ≡ a = omega arith in
      let p : 2 ^ a ≡ 2 ^ suc d * 2 ^ k = ap (λ (j : ℕ). 2 ^ j) (sym i) ∙ pow-add 2 (suc d) k in
      let q : (n + 2 ^ a) / 2 ^ k ≡ n / 2 ^ k + 2 ^ suc d = ap (λ (x : ℕ). (n + x) / 2 ^ k) p ∙ add-mul-div_right n (2 ^ suc d) (pow_pos k) in
      let r : (n + 2 ^ a) / 2 ^ k % 2 ≡ n / 2 ^ k % 2 =
      ap (λ (x : ℕ). x % 2) (q ∙ ap (λ (x : ℕ). n / 2 ^ k + x) (pow-suc 2 d)) ∙ add-mul-mod_self_right (n / 2 ^ k) (2 ^ d) 2 in
      ap (λ (x : ℕ). eqb x 1) r

  own_bit : a ≡ k → in_set (n + 2 ^ a) k ≡ true
  unfolding in_set
  own_bit e =
      let z : n + 2 ^ a ≡ 1 * 2 ^ a + n = omega arith in
      let q : (n + 2 ^ a) / 2 ^ k ≡ 1 = ap (λ (j : ℕ). (n + 2 ^ a) / 2 ^ j) (sym e) ∙ (ap (λ (x : ℕ). x / 2 ^ a) z ∙ high 1 a below) in
      eq-eqb ((n + 2 ^ a) / 2 ^ k % 2) 1 (omega arith)

  upper_bit : a < k → in_set (n + 2 ^ a) k ≡ false
  upper_bit h =
      let p : 2 ^ suc a ≡ 2 ^ a * 2 = pow-suc 2 a in
      let m : 2 ^ suc a ≤ 2 ^ k = pow_mono h in
      no_bit (n + 2 ^ a) k (omega arith)

  -- The kind is in, and what was in still is.
  pub put_bit : in_set (n + 2 ^ a) k ≡ (in_set n k || eqb a k)
  put_bit =
      by_test (ltb k a)
      (λ t. let h = ltb-true k a t in lower_bit h ∙ or_none (in_set n k) (eqb a k) (ne_eqb a k (λ e. omega arith)))
      (λ t. by_test (eqb a k)
      (λ u. same (own_bit (borrow.Author.Tests.eqb-true a k u)) u)
      (λ u.
      let g = ltb-false k a t in
      let ne = borrow.Author.Tests.eqb-false a k u in
      let h : a < k = omega arith in
      let m : 2 ^ a ≤ 2 ^ k = pow_mono {i = a} {j = k} (omega arith) in
      upper_bit h ∙ sym (ap (λ (b : Bool). b || eqb a k) (no_bit n k (omega arith)) ∙ u)))
    where
      same : {x y : Bool} → x ≡ true → y ≡ true → x ≡ (in_set n k || y)
      same {x} {y} e f = e ∙ (or_true (in_set n k) ∙ ap (λ (b : Bool). in_set n k || b) (sym f))
        where
          or_true : (b : Bool) → true ≡ (b || true)
          or_true true = refl
          or_true false = refl

module _ (n a : ℕ) (below : n < 2 ^ a) where
  pub put_small : n + 2 ^ a < 2 ^ (a + 1)
  put_small =
      let p : 2 ^ suc a ≡ 2 ^ a * 2 = pow-suc 2 a in
      let e : a + 1 ≡ suc a = omega arith in
      let q : 2 ^ (a + 1) ≡ 2 ^ suc a = ap (λ (j : ℕ). 2 ^ j) e in
      omega arith
