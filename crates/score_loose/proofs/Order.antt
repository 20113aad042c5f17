-- The order of integers: what sums and products do to it.
use Prim.Native.Nat.{ℕ, suc, ◌+◌, ◌*◌, ◌-◌, ◌<◌, ◌≤◌}
use mathlib.Core.Path.{◌≡◌, refl, sym, ap, ◌∙◌}
use mathlib.Core.Bool.{Bool, true, false, cond}
use native.Mathlib.Omega.{arith}
use lib.Dec.{T, ltb, leb→le, le→leb}
use lib.IntN.{ℤ, pos, negsuc, neg_ℤ, sub_ℕ, ◌+ℤ◌, ◌*ℤ◌, pos-+ℤ-pos, pos-*ℤ-pos, negsuc-*ℤ-pos, +ℤ_assoc, +ℤ_idr, +ℤ_invl}
use lib.Signed.{lt_z, le_z, ◌≤ℤ◌, ≤ℤ_refl}
use borrow.Author.Tests.{ltb-true, ltb-false, lt-ltb, le-ltb}
use Rattle.format_fields.proofs.Truth.{by_test, false_true}
use Rattle.score_tree.specs.Figures.{between}
use Rattle.score_tree.proofs.Ring.{exchange, times_sum}
use Rattle.score_loose.specs.Ends.{End, low, high, other_end, end_by}

sub_high : (n m : ℕ) → m ≤ n → sub_ℕ n m ≡ pos (n - m)
sub_high n m h = simp (le-ltb n m h)

sub_low : (n m : ℕ) → n < m → sub_ℕ n m ≡ negsuc (m - suc n)
sub_low n m h = simp (lt-ltb n m h)

-- A number that is not below another is it and something more.
more_of : (a b : ℤ) → T (le_z a b) → (n : ℕ) × (b ≡ a +ℤ pos n)
more_of (pos m) (pos n) h =
    let k = leb→le m n h in
    let e : n ≡ m + (n - m) = omega arith in
    (n - m, ap pos e)
more_of (pos m) (negsuc n) h = absurd h
more_of (negsuc m) (pos n) h =
    let e : n + suc m - suc m ≡ n = omega arith in
    (n + suc m, sym (sub_high (n + suc m) (suc m) (omega arith) ∙ ap pos e))
more_of (negsuc m) (negsuc n) h =
    let k = leb→le n m h in
    let e : suc m - suc (m - n) ≡ n = omega arith in
    (m - n, sym (sub_low (m - n) (suc m) (omega arith) ∙ ap negsuc e))

of_more : (a : ℤ) (n : ℕ) → T (le_z a (a +ℤ pos n))
of_more (pos m) n = le→leb m (m + n) (omega arith)
of_more (negsuc m) n = by_test (ltb n (suc m))
    (λ q. let h = ltb-true n (suc m) q in rw (sub_low n (suc m) h) (le→leb (suc m - suc n) m (omega arith)))
    (λ q. let h = ltb-false n (suc m) q in rw (sub_high n (suc m) h) tt)

more : {a b : ℤ} → a ≤ℤ b → (n : ℕ) × (b ≡ a +ℤ pos n)
more {a} {b} h = more_of a b h.le

from_more : {a b : ℤ} (n : ℕ) → b ≡ a +ℤ pos n → a ≤ℤ b
from_more {a} n e = rw e (record { le = of_more a n })

-- Sums.
pub add_le : {a b c d : ℤ} → a ≤ℤ b → c ≤ℤ d → (a +ℤ c) ≤ℤ (b +ℤ d)
add_le {a} {b} {c} {d} h k =
    let (n, e) = more h in
    let (m, f) = more k in
    from_more (n + m) ((λ i. e i +ℤ f i) ∙ (exchange a (pos n) c (pos m) ∙ ap (λ (z : ℤ). a +ℤ c +ℤ z) (pos-+ℤ-pos n m)))

-- Products: a factor below 0 turns the order round.
pub scale_le : (f : ℤ) {a b : ℤ} → lt_z f (pos 0) ≡ false → a ≤ℤ b → (f *ℤ a) ≤ℤ (f *ℤ b)
scale_le (pos g) {a} {b} q h =
    let (n, e) = more h in
    from_more (g * n) (ap (λ (z : ℤ). pos g *ℤ z) e ∙ (times_sum (pos g) a (pos n) ∙ ap (λ (z : ℤ). pos g *ℤ a +ℤ z) (pos-*ℤ-pos g n)))
scale_le (negsuc g) q h = false_true (sym q)

pub scale_turned : (f : ℤ) {a b : ℤ} → lt_z f (pos 0) ≡ true → a ≤ℤ b → (f *ℤ b) ≤ℤ (f *ℤ a)
scale_turned (pos g) q h = let k = ltb-true g 0 q in absurd (omega arith)
scale_turned (negsuc g) {a} {b} q h =
    let (n, e) = more h in
    let x = negsuc g *ℤ a in
    let y = pos (suc g * n) in
    let p : negsuc g *ℤ b ≡ x +ℤ neg_ℤ y =
    ap (λ (z : ℤ). negsuc g *ℤ z) e ∙ (times_sum (negsuc g) a (pos n) ∙ ap (λ (z : ℤ). x +ℤ z) (negsuc-*ℤ-pos g n)) in
    from_more (suc g * n) (sym (ap (λ (z : ℤ). z +ℤ y) p ∙ (+ℤ_assoc x (neg_ℤ y) y ∙ (ap (λ (z : ℤ). x +ℤ z) (+ℤ_invl y) ∙ +ℤ_idr x))))

-- x is at an end or beyond it: the low end is not above it, the high end not below.
abbrev pub Beyond : End → ℤ → ℤ → Type 0
Beyond low x z = x ≤ℤ z
Beyond high x z = z ≤ℤ x

pub at_end : (e : End) (x : ℤ) → Beyond e x x
at_end low x = ≤ℤ_refl x
at_end high x = ≤ℤ_refl x

pub add_beyond : (e : End) (x y z u : ℤ) → Beyond e x z → Beyond e y u → Beyond e (x +ℤ y) (z +ℤ u)
add_beyond low x y z u h k = add_le h k
add_beyond high x y z u h k = add_le h k

same_beyond : (e : End) (f x z : ℤ) → lt_z f (pos 0) ≡ false → Beyond e x z → Beyond e (f *ℤ x) (f *ℤ z)
same_beyond low f x z q h = scale_le f q h
same_beyond high f x z q h = scale_le f q h

other_beyond : (e : End) (f x z : ℤ) → lt_z f (pos 0) ≡ true → Beyond (other_end e) x z → Beyond e (f *ℤ x) (f *ℤ z)
other_beyond low f x z q h = scale_turned f q h
other_beyond high f x z q h = scale_turned f q h

-- A factor times a score is beyond an end where the score is beyond the end that stands behind it.
pub scale_beyond : (e : End) (f x z : ℤ) → Beyond (end_by f e) x z → Beyond e (f *ℤ x) (f *ℤ z)
unfolding end_by
scale_beyond e f x z h = go (lt_z f (pos 0)) refl h
  where
    go : (b : Bool) → lt_z f (pos 0) ≡ b → Beyond (cond b (other_end e) e) x z → Beyond e (f *ℤ x) (f *ℤ z)
    go true q k = other_beyond e f x z q k
    go false q k = same_beyond e f x z q k

-- What lies between two numbers of a range is in it.
between_pos : (lo hi m n : ℕ) → between lo hi (pos n) ≡ true → m ≤ n → between lo hi (pos m) ≡ true
unfolding between
between_pos lo hi m n q h = let k = borrow.Author.Tests.leb-true n hi q in borrow.Author.Tests.le-leb m hi (omega arith)

between_neg : (lo hi m n : ℕ) → between lo hi (negsuc n) ≡ true → m ≤ n → between lo hi (negsuc m) ≡ true
unfolding between
between_neg lo hi m n q h = by_test (ltb lo n)
    (λ t. false_true (sym (ap (λ (b : Bool). cond b false true) t) ∙ q))
    (λ t. let k = ltb-false lo n t in ap (λ (b : Bool). cond b false true) (le-ltb lo m (omega arith)))

pub between_mid : (lo hi : ℕ) (x z y : ℤ) → between lo hi x ≡ true → between lo hi y ≡ true → x ≤ℤ z → z ≤ℤ y → between lo hi z ≡ true
between_mid lo hi x (pos m) (pos n) p q h k = between_pos lo hi m n q (leb→le m n k.le)
between_mid lo hi x (pos m) (negsuc n) p q h k = absurd k.le
between_mid lo hi (pos n) (negsuc m) y p q h k = absurd h.le
between_mid lo hi (negsuc n) (negsuc m) y p q h k = between_neg lo hi m n p (leb→le m n h.le)
