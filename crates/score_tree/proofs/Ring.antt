-- Products of integers over sums, and their associativity.
use Prim.Native.Nat.{zero, suc, ◌*◌}
use mathlib.Core.Path.{◌≡◌, refl, sym, ap, ◌∙◌}
use lib.IntN.{ℤ, pos, negsuc, neg_ℤ, suc_ℤ, pred_ℤ, ◌+ℤ◌, ◌*ℤ◌, neg_ℤ-neg_ℤ, neg_ℤ-+ℤ, zero-*ℤ, suc_ℤ-*ℤ, pred_ℤ-*ℤ, *ℤ_comm, +ℤ_assoc, +ℤ_comm}

-- What holds of 0, and of the neighbours of a number that it holds of, holds of all.
by_steps : (P : ℤ → Type 0) → P (pos 0) → ((m : ℤ) → P m → P (suc_ℤ m)) → ((m : ℤ) → P m → P (pred_ℤ m)) → (z : ℤ) → P z
by_steps P base up down (pos zero) = base
by_steps P base up down (pos (suc n)) = up (pos n) (by_steps P base up down (pos n))
by_steps P base up down (negsuc zero) = down (pos 0) base
by_steps P base up down (negsuc (suc n)) = down (negsuc n) (by_steps P base up down (negsuc n))

-- Two sums added, part by part.
pub exchange : (a b c d : ℤ) → (a +ℤ b) +ℤ (c +ℤ d) ≡ (a +ℤ c) +ℤ (b +ℤ d)
exchange a b c d =
    let inner : b +ℤ (c +ℤ d) ≡ c +ℤ (b +ℤ d) = sym (+ℤ_assoc b c d) ∙ (ap (λ (z : ℤ). z +ℤ d) (+ℤ_comm b c) ∙ +ℤ_assoc c b d) in
    +ℤ_assoc a b (c +ℤ d) ∙ (ap (λ (z : ℤ). a +ℤ z) inner ∙ sym (+ℤ_assoc a c (b +ℤ d)))

-- A factor goes into a sum, from the left and from the right.
pub times_sum : (a b c : ℤ) → a *ℤ (b +ℤ c) ≡ a *ℤ b +ℤ a *ℤ c
times_sum a b c = by_steps (λ (m : ℤ). m *ℤ (b +ℤ c) ≡ m *ℤ b +ℤ m *ℤ c) base up down a
  where
    both : {u v x y : ℤ} → u ≡ v → x ≡ y → u +ℤ x ≡ v +ℤ y
    both p q = λ i. p i +ℤ q i

    base : pos 0 *ℤ (b +ℤ c) ≡ pos 0 *ℤ b +ℤ pos 0 *ℤ c
    base = zero-*ℤ (b +ℤ c) ∙ sym (both (zero-*ℤ b) (zero-*ℤ c))

    up : (m : ℤ) → m *ℤ (b +ℤ c) ≡ m *ℤ b +ℤ m *ℤ c → suc_ℤ m *ℤ (b +ℤ c) ≡ suc_ℤ m *ℤ b +ℤ suc_ℤ m *ℤ c
    up m h =
        suc_ℤ-*ℤ m (b +ℤ c)
        ∙ (ap (λ (z : ℤ). z +ℤ (b +ℤ c)) h ∙ (exchange (m *ℤ b) (m *ℤ c) b c ∙ sym (both (suc_ℤ-*ℤ m b) (suc_ℤ-*ℤ m c))))

    down : (m : ℤ) → m *ℤ (b +ℤ c) ≡ m *ℤ b +ℤ m *ℤ c → pred_ℤ m *ℤ (b +ℤ c) ≡ pred_ℤ m *ℤ b +ℤ pred_ℤ m *ℤ c
    down m h =
        pred_ℤ-*ℤ m (b +ℤ c)
        ∙ (both h (neg_ℤ-+ℤ b c) ∙ (exchange (m *ℤ b) (m *ℤ c) (neg_ℤ b) (neg_ℤ c) ∙ sym (both (pred_ℤ-*ℤ m b) (pred_ℤ-*ℤ m c))))

pub sum_times : (a b c : ℤ) → (a +ℤ b) *ℤ c ≡ a *ℤ c +ℤ b *ℤ c
sum_times a b c = *ℤ_comm (a +ℤ b) c ∙ (times_sum c a b ∙ λ i. *ℤ_comm c a i +ℤ *ℤ_comm c b i)

-- A sign goes out of a product.
neg_times : (a b : ℤ) → neg_ℤ a *ℤ b ≡ neg_ℤ (a *ℤ b)
neg_times (pos zero) b = zero-*ℤ b ∙ sym (ap neg_ℤ (zero-*ℤ b))
neg_times (pos (suc m)) (pos n) = refl
neg_times (pos (suc m)) (negsuc n) = sym (neg_ℤ-neg_ℤ (pos (suc m * suc n)))
neg_times (negsuc m) (pos n) = sym (neg_ℤ-neg_ℤ (pos (suc m * n)))
neg_times (negsuc m) (negsuc n) = refl

pub times_times : (a b c : ℤ) → (a *ℤ b) *ℤ c ≡ a *ℤ (b *ℤ c)
times_times a b c = by_steps (λ (m : ℤ). (m *ℤ b) *ℤ c ≡ m *ℤ (b *ℤ c)) base up down a
  where
    base : (pos 0 *ℤ b) *ℤ c ≡ pos 0 *ℤ (b *ℤ c)
    base = ap (λ (z : ℤ). z *ℤ c) (zero-*ℤ b) ∙ (zero-*ℤ c ∙ sym (zero-*ℤ (b *ℤ c)))

    up : (m : ℤ) → (m *ℤ b) *ℤ c ≡ m *ℤ (b *ℤ c) → (suc_ℤ m *ℤ b) *ℤ c ≡ suc_ℤ m *ℤ (b *ℤ c)
    up m h = ap (λ (z : ℤ). z *ℤ c) (suc_ℤ-*ℤ m b) ∙ (sum_times (m *ℤ b) b c ∙ (ap (λ (z : ℤ). z +ℤ b *ℤ c) h ∙ sym (suc_ℤ-*ℤ m (b *ℤ c))))

    down : (m : ℤ) → (m *ℤ b) *ℤ c ≡ m *ℤ (b *ℤ c) → (pred_ℤ m *ℤ b) *ℤ c ≡ pred_ℤ m *ℤ (b *ℤ c)
    down m h =
        ap (λ (z : ℤ). z *ℤ c) (pred_ℤ-*ℤ m b)
        ∙ (sum_times (m *ℤ b) (neg_ℤ b) c ∙ ((λ i. h i +ℤ neg_times b c i) ∙ sym (pred_ℤ-*ℤ m (b *ℤ c))))
