-- Numbers in decimal, digit by digit.
use Prim.Native.Nat.{ℕ, zero, suc, ◌+◌, ◌*◌, ◌/◌, ◌%◌, ◌<◌, ◌≤◌}
use mathlib.Core.Path.{◌≡◌, ◌∙◌}
use mathlib.Core.List.{[], ◌∷◌, ◌++◌}
use native.Mathlib.Omega.{arith}
use lib.ListN.{length, length-append}
use lib.Dec.{ltb}
use borrow.Author.Tests.{ltb-true, ltb-false, lt-ltb, le-ltb}
use Rattle.format_fields.specs.Decimal.{decimal_by, decimal}
use Rattle.format_fields.proofs.Truth.{by_test}

by_fuel : (f g n : ℕ) → n < f → n < g → decimal_by f n ≡ decimal_by g n
unfolding decimal_by
by_fuel zero g n h i = absurd (omega arith)
by_fuel (suc f) zero n h i = absurd (omega arith)
by_fuel (suc f) (suc g) n h i =
    by_test (ltb n 10)
    (λ e. cc)
    (λ e.
    let m : 10 ≤ n = ltb-false n 10 e in
    let i = by_fuel f g (n / 10) (omega arith) (omega arith) in
    cc)

pub decimal_small : (n : ℕ) → n < 10 → decimal n ≡ (48 + n) ∷ []
unfolding decimal decimal_by
decimal_small n h = cc (lt-ltb n 10 h)

pub decimal_large : (n : ℕ) → 10 ≤ n → decimal n ≡ decimal (n / 10) ++ ((48 + n % 10) ∷ [])
unfolding decimal decimal_by
decimal_large n h =
    let i = by_fuel n (suc (n / 10)) (n / 10) (omega arith) (omega arith) in
    cc (le-ltb n 10 h)

pub decimal_more : (n d : ℕ) → 0 < n → d < 10 → decimal (n * 10 + d) ≡ decimal n ++ ((48 + d) ∷ [])
decimal_more n d h i =
    let q : (n * 10 + d) / 10 ≡ n = omega arith in
    let r : (n * 10 + d) % 10 ≡ d = omega arith in
    decimal_large (n * 10 + d) (omega arith) ∙ rw (q, r)

pub decimal_some : (n : ℕ) → 1 ≤ length (decimal n)
decimal_some n =
    by_test (ltb n 10)
    (λ e. rw (decimal_small n (ltb-true n 10 e)) (omega arith))
    (λ e. rw (decimal_large n (ltb-false n 10 e)) (omega (arith, length-append (decimal (n / 10)) ((48 + n % 10) ∷ []))))

pub decimal_two : (n : ℕ) → 10 ≤ n → n < 100 → decimal n ≡ (48 + n / 10) ∷ (48 + n % 10) ∷ []
decimal_two n h i = let j : n / 10 < 10 = omega arith in decimal_large n h ∙ rw (decimal_small (n / 10) j)
