-- Tests that hold, taken apart: `&&`, `||`, `all`, `any`, `keep`, `first`, by the members of a list.
use Prim.Native.Nat.{ℕ, zero, suc, ◌+◌, ◌≤◌, ◌<◌}
use mathlib.Core.Path.{◌≡◌, refl, ap, sym, ◌∙◌}
use mathlib.Core.Logic.{◌⊎◌, inl, inr, ⊎_elim}
use mathlib.Core.Bool.{Bool, true, false, cond, not, ◌&&◌, ◌||◌}
use mathlib.Core.Option.{Option, none, some}
use mathlib.Core.List.{List, [], ◌∷◌, ◌++◌, map}
use native.Mathlib.Omega.{arith}
use lib.Dec.{eqb}
use borrow.Author.Tests.{eqb-true, eq-eqb}
use Rattle.format_fields.specs.Lists.{all, any, keep, first, concat_map, count_up, same_numbers, is_some}

-- false is not true, and none is not some.
pub false_true : {A : Type 0} → false ≡ true → A
false_true e = absurd (clash e)
  where
    clash : false ≡ true → ⊥
    clash e = let z : ◌≡◌ {A = ℕ} 0 1 = cc in omega arith

pub none_some : {A B : Type 0} {b : B} → none ≡ some b → A
none_some {B = B} {b} e = absurd (clash b e)
  where
    clash : (b : B) → none ≡ some b → ⊥
    clash b e = let z : ◌≡◌ {A = ℕ} 0 1 = cc in omega arith

pub some_inj : {A : Type 0} {a b : A} → some a ≡ some b → a ≡ b
some_inj e = cc

pub by_test : {A : Type 0} (b : Bool) → (b ≡ true → A) → (b ≡ false → A) → A
by_test true f g = f refl
by_test false f g = g refl

pub and_both : (a b : Bool) → (a && b) ≡ true → (a ≡ true) × (b ≡ true)
and_both true true e = (refl, refl)
and_both true false e = false_true e
and_both false b e = false_true e

pub both_and : (a b : Bool) → a ≡ true → b ≡ true → (a && b) ≡ true
both_and a b e f = rw (e, f)

pub or_cases : (a b : Bool) → (a || b) ≡ true → (a ≡ true) ⊎ (b ≡ true)
or_cases true b e = inl refl
or_cases false b e = inr e

pub or_left : (a b : Bool) → a ≡ true → (a || b) ≡ true
or_left a b e = rw e

pub or_right : (a b : Bool) → b ≡ true → (a || b) ≡ true
or_right true b e = refl
or_right false b e = e

pub or_false : (a b : Bool) → (a || b) ≡ false → (a ≡ false) × (b ≡ false)
or_false false false e = (refl, refl)
or_false false true e = false_true (sym e)
or_false true b e = false_true (sym e)

pub false_or : (a b : Bool) → a ≡ false → b ≡ false → (a || b) ≡ false
false_or a b e f = rw (e, f)

pub not_true : (a : Bool) → not a ≡ true → a ≡ false
not_true false e = refl
not_true true e = false_true e

pub true_not : (a : Bool) → not a ≡ false → a ≡ true
true_not true e = refl
true_not false e = false_true (sym e)

-- A test that is not true is false.
pub refuted : (a : Bool) → (a ≡ true → ⊥) → a ≡ false
refuted true h = absurd (h refl)
refuted false h = refl

pub not_both : {A : Type 0} {a : Bool} → a ≡ true → a ≡ false → A
not_both e f = false_true (sym f ∙ e)

-- Two tests are equal where each implies the other.
pub same_truth : (a b : Bool) → (a ≡ true → b ≡ true) → (b ≡ true → a ≡ true) → a ≡ b
same_truth true b f g = sym (f refl)
same_truth false true f g = g refl
same_truth false false f g = refl

module _ {A : Type 0} where
  -- An element is a member of a list.
  abbrev pub Mem : A → List A → Type 0
  Mem a [] = ⊥
  Mem a (b ∷ l) = (a ≡ b) ⊎ Mem a l

  pub all_mem : (f : A → Bool) (l : List A) → all f l ≡ true → (a : A) → Mem a l → f a ≡ true
  unfolding all
  all_mem f (b ∷ l) e a (inl q) = rw q (and_both (f b) (all f l) e).0
  all_mem f (b ∷ l) e a (inr m) = all_mem f l (and_both (f b) (all f l) e).1 a m
  all_mem f [] e a x'' = elim x'' [ ]

  pub mem_all : (f : A → Bool) (l : List A) → ((a : A) → Mem a l → f a ≡ true) → all f l ≡ true
  unfolding all
  mem_all f [] h = refl
  mem_all f (b ∷ l) h = both_and (f b) (all f l) (h b (inl refl)) (mem_all f l (λ a m. h a (inr m)))

  pub any_mem : (f : A → Bool) (l : List A) → any f l ≡ true → (a : A) × Mem a l × (f a ≡ true)
  unfolding any
  any_mem f [] e = false_true e
  any_mem f (b ∷ l) e =
      ⊎_elim (λ q. (b, inl refl, q)) (λ q. let r = any_mem f l q in (r.0, inr r.1, r.2)) (or_cases (f b) (any f l) e)

  pub mem_any : (f : A → Bool) (l : List A) (a : A) → Mem a l → f a ≡ true → any f l ≡ true
  unfolding any
  mem_any f (b ∷ l) a (inl q) e = or_left (f b) (any f l) (rw q at e)
  mem_any f (b ∷ l) a (inr m) e = or_right (f b) (any f l) (mem_any f l a m e)
  mem_any f [] a x'' e = elim x'' [ ]

  -- No member passes where `any` is false.
  pub any_false : (f : A → Bool) (l : List A) → any f l ≡ false → (a : A) → Mem a l → f a ≡ false
  any_false f l e a m = refuted (f a) (λ q. not_both (mem_any f l a m q) e)

  pub false_any : (f : A → Bool) (l : List A) → ((a : A) → Mem a l → f a ≡ false) → any f l ≡ false
  false_any f l h = refuted (any f l) (λ e. let r = any_mem f l e in not_both r.2 (h r.0 r.1))

  pub keep_cases : (f : A → Bool) (a : A) (l : List A) → Mem a (keep f l) → Mem a l × (f a ≡ true)
  unfolding keep
  keep_cases f a (b ∷ l) m = go (λ n. let r = keep_cases f a l n in (inr r.0, r.1)) (f b) refl m
    where
      go : (Mem a (keep f l) → Mem a (b ∷ l) × (f a ≡ true)) → (t : Bool) → f b ≡ t → Mem a (cond t (b ∷ keep f l) (keep f l)) → Mem a (b ∷ l) × (f a ≡ true)
      go more true q (inl e) = (inl e, rw e q)
      go more true q (inr n) = more n
      go more false q n = more n
  keep_cases f a [] m = elim m [ ]

  pub mem_keep : (f : A → Bool) (a : A) (l : List A) → Mem a l → f a ≡ true → Mem a (keep f l)
  unfolding keep
  mem_keep f a (b ∷ l) m e = go (λ n. mem_keep f a l n e) (f b) refl m
    where
      go : (Mem a l → Mem a (keep f l)) → (t : Bool) → f b ≡ t → Mem a (b ∷ l) → Mem a (cond t (b ∷ keep f l) (keep f l))
      go more true q (inl n) = inl n
      go more true q (inr n) = inr (more n)
      go more false q (inl n) = not_both e (rw n q)
      go more false q (inr n) = more n
  mem_keep f a [] m e = elim m [ ]

  pub mem_append : (a : A) (l m : List A) → Mem a l ⊎ Mem a m → Mem a (l ++ m)
  mem_append a [] m (inr q) = q
  mem_append a (b ∷ l) m (inl (inl e)) = inl e
  mem_append a (b ∷ l) m (inl (inr q)) = inr (mem_append a l m (inl q))
  mem_append a (b ∷ l) m (inr q) = inr (mem_append a l m (inr q))
  mem_append a [] m (inl x'') = elim x'' [ ]

  pub append_cases : (a : A) (l m : List A) → Mem a (l ++ m) → Mem a l ⊎ Mem a m
  append_cases a [] m q = inr q
  append_cases a (b ∷ l) m (inl e) = inl (inl e)
  append_cases a (b ∷ l) m (inr q) = ⊎_elim (λ p. inl (inr p)) (λ p. inr p) (append_cases a l m q)

module _ {A B : Type 0} where
  pub mem_map : (f : A → B) (a : A) (l : List A) → Mem a l → Mem (f a) (map f l)
  mem_map f a (b ∷ l) (inl e) = inl (ap f e)
  mem_map f a (b ∷ l) (inr m) = inr (mem_map f a l m)
  mem_map f a [] x' = elim x' [ ]

  pub map_cases : (f : A → B) (b : B) (l : List A) → Mem b (map f l) → (a : A) × Mem a l × (b ≡ f a)
  map_cases f b (c ∷ l) (inl e) = (c, inl refl, e)
  map_cases f b (c ∷ l) (inr m) = let r = map_cases f b l m in (r.0, inr r.1, r.2)
  map_cases f b [] x' = elim x' [ ]

  pub concat_cases : (f : A → List B) (b : B) (l : List A) → Mem b (concat_map f l) → (a : A) × Mem a l × Mem b (f a)
  unfolding concat_map
  concat_cases f b (c ∷ l) m = ⊎_elim (λ q. (c, inl refl, q)) (λ q. let r = concat_cases f b l q in (r.0, inr r.1, r.2)) (append_cases b (f c) (concat_map f l) m)
  concat_cases f b [] m = elim m [ ]

  pub mem_concat : (f : A → List B) (a : A) (b : B) (l : List A) → Mem a l → Mem b (f a) → Mem b (concat_map f l)
  unfolding concat_map
  mem_concat f a b (c ∷ l) (inl e) q = mem_append b (f c) (concat_map f l) (inl (rw e at q))
  mem_concat f a b (c ∷ l) (inr m) q = mem_append b (f c) (concat_map f l) (inr (mem_concat f a b l m q))
  mem_concat f a b [] x'' q = elim x'' [ ]

  -- What `first` finds is the value at a member.
  pub first_mem : (f : A → Option B) (l : List A) (b : B) → first f l ≡ some b → (a : A) × Mem a l × (f a ≡ some b)
  unfolding first
  first_mem f [] b e = none_some e
  first_mem f (c ∷ l) b e = go (λ p. let r = first_mem f l b p in (r.0, inr r.1, r.2)) (f c) refl e
    where
      go : (first f l ≡ some b → (a : A) × Mem a (c ∷ l) × (f a ≡ some b)) → (o : Option B) → f c ≡ o → (elim o [ some x ↦ some x | none ↦ first f l ]) ≡ some b → (a : A) × Mem a (c ∷ l) × (f a ≡ some b)
      go more none q p = more p
      go more (some x) q p = (c, inl refl, q ∙ p)

  -- Where all members with a value have the same one, `first` finds it.
  pub mem_first : (f : A → Option B) (l : List A) (a : A) (b : B) → Mem a l → f a ≡ some b
      → ((c : A) (d : B) → Mem c l → f c ≡ some d → d ≡ b) → first f l ≡ some b
  unfolding first
  mem_first f (c ∷ l) a b m e h = go (λ n. mem_first f l a b n e (λ x y p. h x y (inr p))) (f c) refl m
    where
      go : (Mem a l → first f l ≡ some b) → (o : Option B) → f c ≡ o → Mem a (c ∷ l) → (elim o [ some x ↦ some x | none ↦ first f l ]) ≡ some b
      go more none q (inl n) = none_some (sym q ∙ (ap f (sym n) ∙ e))
      go more none q (inr n) = more n
      go more (some x) q n = ap some (h c x (inl refl) q)
  mem_first f [] a b m e h = elim m [ ]

-- The numbers from n up to n + m.
pub mem_count : (m n k : ℕ) → n ≤ k → k < n + m → Mem k (count_up m n)
unfolding count_up
mem_count zero n k h j = absurd (omega arith)
mem_count (suc m) n k h j = by_test (eqb k n) (λ e. inl (eqb-true k n e)) (λ e. inr (mem_count m (suc n) k (omega (arith, borrow.Author.Tests.eqb-false k n e)) (omega arith)))

pub count_mem : (m n k : ℕ) → Mem k (count_up m n) → (n ≤ k) × (k < n + m)
unfolding count_up
count_mem (suc m) n k (inl e) = omega arith
count_mem (suc m) n k (inr q) = let r = count_mem m (suc n) k q in omega arith
count_mem zero n k x' = elim x' [ ]

-- Lists of numbers that are the same are equal.
pub numbers_equal : (l m : List ℕ) → same_numbers l m ≡ true → l ≡ m
unfolding same_numbers
numbers_equal [] [] e = refl
numbers_equal [] (b ∷ m) e = false_true e
numbers_equal (a ∷ l) [] e = false_true e
numbers_equal (a ∷ l) (b ∷ m) e =
    let r = and_both (eqb a b) (same_numbers l m) e in
    λ i. eqb-true a b r.0 i ∷ numbers_equal l m r.1 i

pub equal_numbers : (l : List ℕ) → same_numbers l l ≡ true
unfolding same_numbers
equal_numbers [] = refl
equal_numbers (a ∷ l) = both_and (eqb a a) (same_numbers l l) (eq-eqb a a refl) (equal_numbers l)

pub some_is : {A : Type 0} (o : Option A) → is_some o ≡ true → (a : A) × (o ≡ some a)
some_is none e = false_true e
some_is (some a) e = (a, refl)

pub is_some_lem : {A : Type 0} {a : A} (o : Option A) → o ≡ some a → is_some o ≡ true
is_some_lem none e = none_some e
is_some_lem (some b) e = refl
