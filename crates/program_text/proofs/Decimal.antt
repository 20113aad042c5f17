-- A number in decimal: that its fewest digits are it, how many it has below 10,000, and that these are put.
use Prim.Native.Nat.{ℕ, zero, suc, ◌+◌, ◌*◌, ◌-◌, ◌/◌, ◌%◌, ◌^◌, ◌<◌, ◌≤◌}
use mathlib.Core.Path.{◌≡◌, ap, sym, ◌∙◌, subst}
use mathlib.Core.List.{List, [], ◌∷◌, ◌++◌}
use native.Mathlib.Nat.{pow-le-pow_right, pow-suc, zero-lt-suc}
use native.Mathlib.Omega.{arith}
use lib.Dec.{leb}
use borrow.Author.Tests.{lt-ltb, leb-true, leb-false}
use Rattle.io.specs.Digits.{hex_digit_ascii, last_digits, IsDigitCount}
use Rattle.format_fields.specs.Decimal.{decimal}
use Rattle.format_fields.proofs.Truth.{by_test}
use Rattle.format_fields.proofs.Decimal.{decimal_small, decimal_large}
use Rattle.program_text.specs.Inner.Putting.{Puts}

-- A digit as a byte.
digit_is : (d : ℕ) → d < 10 → hex_digit_ascii d ≡ 48 + d
digit_is d h = rw (lt-ltb d 10 h)

-- The fewest digits of a number are the number in decimal.
digits_are : (k n : ℕ) → IsDigitCount 10 1 n k → last_digits 10 k n ≡ decimal n
digits_are zero n f = absurd (omega (arith, f.0))
digits_are (suc zero) n f =
    let h : n < 10 = f.1 in
    let m : n % 10 ≡ n = omega arith in
    ap (λ (d : ℕ). d ∷ []) (digit_is (n % 10) (omega arith) ∙ ap (λ (d : ℕ). 48 + d) m) ∙ sym (decimal_small n h)
digits_are (suc (suc j)) n f =
    let e : 10 ^ suc (suc j) ≡ 10 ^ suc j * 10 = pow-suc 10 (suc j) in
    let d : 10 ^ suc j ≡ 10 ^ j * 10 = pow-suc 10 j in
    let i : suc (suc j) - 1 ≡ suc j = omega arith in
    let low : 10 ^ suc j ≤ n = subst (λ (m : ℕ). 10 ^ m ≤ n) i (f.2 (omega arith)) in
    let z : 0 ≤ j = omega arith in
    let one : 1 ≤ 10 ^ j = pow-le-pow_right (zero-lt-suc 9) z in
    let large : 10 ≤ n = omega arith in
    let high : n < 10 ^ suc (suc j) = f.1 in
    let q : j ≡ suc j - 1 = omega arith in
    let rest : 10 ^ j ≤ n / 10 = omega arith in
    let fewer : IsDigitCount 10 1 (n / 10) (suc j) = (omega arith, omega arith, λ g. subst (λ (m : ℕ). 10 ^ m ≤ n / 10) q rest) in
    ap (λ (l : List ℕ). l ++ (hex_digit_ascii (n % 10) ∷ [])) (digits_are (suc j) (n / 10) fewer)
    ∙ (ap (λ (b : ℕ). decimal (n / 10) ++ (b ∷ [])) (digit_is (n % 10) (omega arith)) ∙ sym (decimal_large n large))

-- The fewest digits of a number below a power are no more than its exponent.
most : (n k j : ℕ) → 1 ≤ j → n < 10 ^ j → IsDigitCount 10 1 n k → k ≤ j
most n k j one h f =
    by_test (leb k j)
    (λ e. leb-true _ _ e)
    (λ e.
    let d : j < k = leb-false _ _ e in
    let g : 10 ^ (k - 1) ≤ n = f.2 (omega arith) in
    let p : 10 ^ j ≤ 10 ^ (k - 1) = pow-le-pow_right (zero-lt-suc 9) (omega arith) in
    absurd (omega arith))

-- `put_decimal`
module _ (n k : ℕ) (f : IsDigitCount 10 1 n k) where
  pub short : n < 10000 → k ≤ 4
  short small = most n k 4 (omega arith) small f

  pub puts_decimal : (d o o' : List ℕ) (p r : ℕ) → d ≡ last_digits 10 k n → Puts d o o' p r → Puts (decimal n) o o' p r
  puts_decimal d o o' p r e x = subst (λ (l : List ℕ). Puts l o o' p r) (e ∙ digits_are k n f) x
