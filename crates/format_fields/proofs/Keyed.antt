-- Lists that rise strictly by a key: given by their members; what is in a union, and that it rises.
-- Languages and bodies both use these laws.
use Prim.Native.Nat.{ℕ, suc, ◌≤◌, ◌<◌}
use mathlib.Core.Path.{◌≡◌, refl, ap, sym, ◌∙◌}
use mathlib.Core.Logic.{◌⊎◌, inl, inr, ⊎_elim}
use mathlib.Core.Bool.{Bool, true, false, not}
use mathlib.Core.List.{List, [], ◌∷◌}
use native.Mathlib.Omega.{arith}
use lib.Dec.{ltb, leb, eqb}
use borrow.Author.Tests.{ltb-true, ltb-false, leb-true, le-leb, eqb-true, eq-eqb}
use Rattle.format_fields.specs.Lists.{keep}
use Rattle.format_fields.specs.Keyed.{Order, below, same, above, ordered, order, rising_from, rising, place, insert, union, holds, agree}
use Rattle.format_fields.proofs.Truth.{Mem, by_test, and_both, both_and, or_cases, or_right, or_left, not_true, not_both, all_mem, mem_all, any_mem, mem_any}

-- What the order of two keys says.
pub data Compared (m n : ℕ) : Order → Type 0 where
  is_below : m < n → Compared m n below
  is_same : m ≡ n → Compared m n same
  is_above : n < m → Compared m n above

pub compared : (m n : ℕ) → Compared m n (order m n)
compared m n = go (ltb m n) (ltb n m) refl refl
  where
    go : (a b : Bool) → ltb m n ≡ a → ltb n m ≡ b → Compared m n (ordered a b)
    go true b e f = is_below (ltb-true m n e)
    go false true e f = is_above (ltb-true n m f)
    go false false e f = is_same (omega (arith, ltb-false m n e, ltb-false n m f))

module _ {A : Type 0} (key : A → ℕ) where
  -- Strictly rising, all keys at least n.
  abbrev pub From : ℕ → List A → Type 0
  From n [] = Unit {0}
  From n (x ∷ l) = (n ≤ key x) × From (suc (key x)) l

  pub from_rising : (n : ℕ) (l : List A) → rising_from key n l ≡ true → From n l
  unfolding rising_from
  from_rising n [] e = tt
  from_rising n (x ∷ l) e =
      let r = and_both (leb n (key x)) (rising_from key (suc (key x)) l) e in
      (leb-true n (key x) r.0, from_rising (suc (key x)) l r.1)

  pub rising_from_lem : (n : ℕ) (l : List A) → From n l → rising_from key n l ≡ true
  unfolding rising_from
  rising_from_lem n [] f = refl
  rising_from_lem n (x ∷ l) f =
      both_and (leb n (key x)) (rising_from key (suc (key x)) l) (le-leb n (key x) f.0) (rising_from_lem (suc (key x)) l f.1)

  abbrev pub Rising : List A → Type 0
  Rising l = From 0 l

  pub is_rising : (l : List A) → rising key l ≡ true → Rising l
  unfolding rising
  is_rising l e = from_rising 0 l e

  pub rising_is : (l : List A) → Rising l → rising key l ≡ true
  unfolding rising
  rising_is l f = rising_from_lem 0 l f

  -- Members of one key are equal.
  abbrev pub Agree : List A → List A → Type 0
  Agree l m = (a b : A) → Mem a l → Mem b m → key a ≡ key b → a ≡ b

  pub from_weaken : {n k : ℕ} (l : List A) → k ≤ n → From n l → From k l
  from_weaken [] h f = tt
  from_weaken (x ∷ l) h f = (omega arith, f.1)

  pub from_mem : {n : ℕ} {a : A} (l : List A) → From n l → Mem a l → n ≤ key a
  from_mem {n = n} (x ∷ l) f (inl e) = rw e f.0
  from_mem {n = n} {a = a} (x ∷ l) f (inr h) = omega (arith, from_mem {n = suc (key x)} {a = a} l f.1 h)
  from_mem {n = n} {a = a} [] f x'' = elim x'' [ ]

  pub from_agree : (n : ℕ) (l : List A) → From n l → Agree l l
  from_agree n (x ∷ l) f a b (inl e) (inl d) q = cc
  from_agree n (x ∷ l) f a b (inl e) (inr h) q = absurd (omega (arith, from_mem l f.1 h, ap key e))
  from_agree n (x ∷ l) f a b (inr h) (inl e) q = absurd (omega (arith, from_mem l f.1 h, ap key e))
  from_agree n (x ∷ l) f a b (inr h) (inr g) q = from_agree (suc (key x)) l f.1 a b h g q
  from_agree n [] f a b x4 _ q = elim x4 [ ]

  -- Two rising lists with the same members are equal.
  pub rising_ext : (n k : ℕ) (l m : List A) → From n l → From k m → ((a : A) → Mem a l → Mem a m) → ((a : A) → Mem a m → Mem a l)
      → l ≡ m
  rising_ext n k [] [] f g i j = refl
  rising_ext n k [] (y ∷ m) f g i j = absurd (j y (inl refl))
  rising_ext n k (x ∷ l) [] f g i j = absurd (i x (inl refl))
  rising_ext n k (x ∷ l) (y ∷ m) f g i j = λ t. e t ∷ rising_ext (suc (key x)) _ l m f.1 g.1 down up t
    where
      heads : Mem x (y ∷ m) → Mem y (x ∷ l) → x ≡ y
      heads (inl e) q = e
      heads (inr h) (inl e) = sym e
      heads (inr h) (inr q) = absurd (omega (arith, from_mem m g.1 h, from_mem l f.1 q))

      e : x ≡ y
      e = heads (i x (inl refl)) (j y (inl refl))

      -- A member past the head is not the other list's head.
      past : (z : A) (r s : List A) → key z ≡ key x → From (suc (key x)) r → (a : A) → Mem a r → Mem a (z ∷ s) → Mem a s
      past z r s d w a h (inl q) = absurd (omega (arith, from_mem r w h, ap key q))
      past z r s d w a h (inr q) = q

      down : (a : A) → Mem a l → Mem a m
      down a h = past y l m (ap key (sym e)) f.1 a h (i a (inr h))

      up : (a : A) → Mem a m → Mem a l
      up a h = past x m l refl (rw (ap key (sym e)) at g.1) a h (j a (inr h))

  -- What is in an insertion, what is in a union.
  place_cases : {a : A} {o : Order} (x y : A) (l r : List A) → Compared (key x) (key y) o → (Mem a r → (a ≡ x) ⊎ Mem a l)
      → Mem a (place key x y l r o) → (a ≡ x) ⊎ Mem a (y ∷ l)
  place_cases x y l r (is_below h) c (inl e) = inl e
  place_cases x y l r (is_below h) c (inr q) = inr q
  place_cases x y l r (is_same h) c (inl e) = inl e
  place_cases x y l r (is_same h) c (inr q) = inr (inr q)
  place_cases x y l r (is_above h) c (inl e) = inr (inl e)
  place_cases x y l r (is_above h) c (inr q) = ⊎_elim (λ e. inl e) (λ p. inr (inr p)) (c q)

  pub insert_cases : {a : A} (x : A) (l : List A) → Mem a (insert key x l) → (a ≡ x) ⊎ Mem a l
  unfolding insert
  insert_cases x [] h = h
  insert_cases x (y ∷ l) h = place_cases x y l (insert key x l) (compared (key x) (key y)) (λ q. insert_cases x l q) h

  pub union_cases : (a : A) (l m : List A) → Mem a (union key l m) → Mem a l ⊎ Mem a m
  unfolding union
  union_cases a [] m h = inr h
  union_cases a (x ∷ l) m h =
      ⊎_elim (λ e. inl (inl e)) (λ q. ⊎_elim (λ p. inl (inr p)) (λ p. inr p) (union_cases a l m q)) (insert_cases x (union key l m) h)

  place_self : {o : Order} (x y : A) (l r : List A) → Compared (key x) (key y) o → Mem x r → Mem x (place key x y l r o)
  place_self x y l r (is_below h) q = inl refl
  place_self x y l r (is_same h) q = inl refl
  place_self x y l r (is_above h) q = inr q

  insert_self : (x : A) (l : List A) → Mem x (insert key x l)
  unfolding insert
  insert_self x [] = inl refl
  insert_self x (y ∷ l) = place_self x y l (insert key x l) (compared (key x) (key y)) (insert_self x l)

  place_keeps : {o : Order} (a x y : A) (l r : List A) → Compared (key x) (key y) o → (key x ≡ key a → x ≡ a) → (Mem a l → Mem a r)
      → Mem a (y ∷ l) → Mem a (place key x y l r o)
  place_keeps a x y l r (is_below h) c g q = inr q
  place_keeps a x y l r (is_same h) c g (inl e) = inl (sym (c (h ∙ ap key (sym e))))
  place_keeps a x y l r (is_same h) c g (inr q) = inr q
  place_keeps a x y l r (is_above h) c g (inl e) = inl e
  place_keeps a x y l r (is_above h) c g (inr q) = inr (g q)

  -- A member stays, unless another of the same key takes its place.
  insert_keeps : (a x : A) (l : List A) → (key x ≡ key a → x ≡ a) → Mem a l → Mem a (insert key x l)
  unfolding insert
  insert_keeps a x (y ∷ l) c q =
      place_keeps a x y l (insert key x l) (compared (key x) (key y)) c (λ p. insert_keeps a x l c p) q
  insert_keeps a x [] c q = elim q [ ]

  union_right : (a : A) (l m : List A) → Agree l m → Mem a m → Mem a (union key l m)
  unfolding union
  union_right a [] m c h = h
  union_right a (x ∷ l) m c h =
      insert_keeps a x (union key l m) (c x a (inl refl) h) (union_right a l m (λ b d p q. c b d (inr p) q) h)

  union_left : (a : A) (l m : List A) → Agree l l → Mem a l → Mem a (union key l m)
  unfolding union
  union_left a (x ∷ l) m c (inl e) = rw e (insert_self x (union key l m))
  union_left a (x ∷ l) m c (inr h) =
      insert_keeps a x (union key l m) (c x a (inl refl) (inr h)) (union_left a l m (λ b d p q. c b d (inr p) (inr q)) h)
  union_left a [] m c x'' = elim x'' [ ]

  -- A union of rising lists rises.
  place_from : {o : Order} (n : ℕ) (x y : A) (l r : List A) → Compared (key x) (key y) o → n ≤ key x → From n (y ∷ l)
      → (key y < key x → From (suc (key y)) r) → From n (place key x y l r o)
  place_from n x y l r (is_below q) h f g = (h, (q, f.1))
  place_from n x y l r (is_same q) h f g = (h, rw q f.1)
  place_from n x y l r (is_above q) h f g = (f.0, g q)

  insert_from : (n : ℕ) (x : A) (l : List A) → n ≤ key x → From n l → From n (insert key x l)
  unfolding insert
  insert_from n x [] h f = (h, tt)
  insert_from n x (y ∷ l) h f =
      place_from n x y l (insert key x l) (compared (key x) (key y)) h f (λ q. insert_from (suc (key y)) x l q f.1)

  pub union_from : (n : ℕ) (l m : List A) → From n l → From n m → From n (union key l m)
  unfolding union
  union_from n [] m f g = g
  union_from n (x ∷ l) m f g =
      insert_from n x (union key l m) f.0 (union_from n l m (from_weaken l (omega arith) f.1) g)

  pub agree_sym : (l m : List A) → Agree l m → Agree m l
  agree_sym l m c a b p q e = sym (c b a q p (sym e))

  -- A member of either is a member of the union.
  pub union_mem : (a : A) (l m : List A) → Rising l → Agree l m → Mem a l ⊎ Mem a m → Mem a (union key l m)
  union_mem a l m f c (inl h) = union_left a l m (from_agree 0 l f) h
  union_mem a l m f c (inr h) = union_right a l m c h

  -- What is kept of a rising list rises.
  pub keep_from : (f : A → Bool) (n : ℕ) (l : List A) → From n l → From n (keep f l)
  unfolding keep
  keep_from f n [] g = tt
  keep_from f n (x ∷ l) g =
      by_test (f x)
      (λ e. rw (e, keep) (g.0, keep_from f (suc (key x)) l g.1))
      (λ e. rw (e, keep) (keep_from f n l (from_weaken l (omega arith) g.1)))

-- The tests, where `alike` tells equal entries.
module _ {A : Type 0} (alike : A → A → Bool) (alike_equal : (a b : A) → alike a b ≡ true → a ≡ b) (equal_alike : (a : A) → alike a a ≡ true) where
  pub holds_mem : (l : List A) (a : A) → holds alike l a ≡ true → Mem a l
  unfolding holds
  holds_mem l a e = let r = any_mem (alike a) l e in let q = alike_equal a r.0 r.2 in rw q r.1

  pub mem_holds : (l : List A) (a : A) → Mem a l → holds alike l a ≡ true
  unfolding holds
  mem_holds l a m = mem_any (alike a) l a m (equal_alike a)

  module _ (key : A → ℕ) where
    pub agree_holds : (l m : List A) → agree key alike l m ≡ true → Agree key l m
    unfolding agree
    agree_holds l m e a b p q k =
        ⊎_elim
        (λ n. not_both (eq-eqb (key a) (key b) k) (not_true (eqb (key a) (key b)) n))
        (λ n. alike_equal a b n)
        (or_cases (not (eqb (key a) (key b))) (alike a b) (all_mem _ m (all_mem _ l e a p) b q))

    pub holds_agree : (l m : List A) → Agree key l m → agree key alike l m ≡ true
    unfolding agree
    holds_agree l m h =
        mem_all _ l (λ a p. mem_all _ m (λ b q.
        by_test (eqb (key a) (key b))
        (λ e. or_right (not (eqb (key a) (key b))) (alike a b) (rw (h a b p q (eqb-true (key a) (key b) e)) (equal_alike b)))
        (λ e. or_left (not (eqb (key a) (key b))) (alike a b) (rw e))))
