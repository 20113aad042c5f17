-- Bounds of sums and products of integers, by their absolute values, and what the bits of a signed local say.
use Rattle.std.proofs.lemmas.Int.{unsigned_abs-mul, ints}
use Prim.Native.Nat.{ℕ, ◌+◌, ◌*◌, ◌^◌, ◌<◌, ◌≤◌}
use mathlib.Core.Path.{◌≡◌, ap, ◌∙◌}
use mathlib.Core.Bool.{true}
use native.Mathlib.Omega.{arith}
use native.Mathlib.Nat.{mul-le-mul}
use lib.IntN.{ℤ, pos, negsuc, nat_abs, ◌+ℤ◌, ◌*ℤ◌}
use lib.Signed.{mag}
use mir.Syntax.{Width, w64}
use mir.Val.{SFits, to_z, of_z, hbits}
use mir.Facts.{to_z-of_z}
use Rattle.score_tree.specs.Figures.{signed, between, is_figure, is_score, unsigned}

-- Absolute values of a product and of a sum.
abs_add : (a b : ℤ) → nat_abs (a +ℤ b) ≤ nat_abs a + nat_abs b
abs_add a b = grind (arith, ints)

pub mul_within : (a b : ℤ) (m n : ℕ) → nat_abs a ≤ m → nat_abs b ≤ n → nat_abs (a *ℤ b) ≤ m * n
mul_within a b m n h k = rw (unsigned_abs-mul a b) (mul-le-mul h k)

pub add_within : (a b : ℤ) (m n : ℕ) → nat_abs a ≤ m → nat_abs b ≤ n → nat_abs (a +ℤ b) ≤ m + n
add_within a b m n h k = let l = abs_add a b in omega arith

-- A bounded number fits, and is what its bits say.
mag_abs : (z : ℤ) → mag z ≤ nat_abs z
mag_abs (pos n) = omega arith
mag_abs (negsuc n) = omega arith

pub fits : (w : Width) (z : ℤ) → nat_abs z < 2 ^ hbits w → SFits w z
fits w z h = let l = mag_abs z in record { sfits = omega arith }

-- A signed local holds `of_z w z`, and is read by `to_z w`.
pub back : (w : Width) (z : ℤ) → nat_abs z < 2 ^ hbits w → to_z w (of_z w z) ≡ z
back w z h = to_z-of_z (fits w z h)

-- The same from what a call says of its result.
pub told : (w : Width) (z : ℤ) → mag z < 2 ^ hbits w → to_z w (of_z w z) ≡ z
told w z h = to_z-of_z (record { sfits = h })

-- A test of two bounds.
pub between_near : (low high : ℕ) (z : ℤ) → between low high z ≡ true → low < high + 1 → nat_abs z ≤ high + 1
unfolding between
between_near low high z q l = grind (arith, ints)

pub score_near : (z : ℤ) → is_score z ≡ true → nat_abs z ≤ 1000000000
unfolding between
score_near z q = grind (arith, ints)

-- add_scaled: x, y and z are what the machine reads of the sum, the factor and the score.
module _ (a f s x y z : ℤ) (ex : x ≡ a) (ey : y ≡ f) (ez : z ≡ s)
    (ha : nat_abs a ≤ 40000000000000000) (hf : nat_abs f ≤ 32768) (hs : nat_abs s ≤ 1000000000) where
  product : nat_abs (y *ℤ z) ≤ 32768000000000
  product = rw (ey, ez) (mul_within f s 32768 1000000000 hf hs)

  pub scaled_fits : SFits w64 (y *ℤ z)
  scaled_fits = fits w64 _ (let l = product in omega arith)

  scaled : to_z w64 (of_z w64 (y *ℤ z)) ≡ f *ℤ s
  scaled = to_z-of_z scaled_fits ∙ (ap (λ (k : ℤ). k *ℤ z) ey ∙ ap (λ (k : ℤ). f *ℤ k) ez)

  sum : nat_abs (x +ℤ to_z w64 (of_z w64 (y *ℤ z))) ≤ 40032768000000000
  sum = rw (ex, scaled) (add_within a (f *ℤ s) 40000000000000000 32768000000000 ha (mul_within f s 32768 1000000000 hf hs))

  pub sum_fits : SFits w64 (x +ℤ to_z w64 (of_z w64 (y *ℤ z)))
  sum_fits = fits w64 _ (let l = sum in omega arith)

  pub sum_is : to_z w64 (of_z w64 (x +ℤ to_z w64 (of_z w64 (y *ℤ z)))) ≡ a +ℤ f *ℤ s
  sum_is = to_z-of_z sum_fits ∙ (ap (λ (k : ℤ). k +ℤ to_z w64 (of_z w64 (y *ℤ z))) ex ∙ ap (λ (k : ℤ). a +ℤ k) scaled)

-- A figure read from the number that stands for it.
pub figure_read : (z : ℤ) → is_figure z ≡ true → signed (unsigned z) ≡ z
unfolding unsigned signed between
figure_read z f = grind (arith, ints)
