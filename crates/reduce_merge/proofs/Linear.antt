-- Linear walks over two rising lists: union, "without" and "within" a turn at a time, where x is the first of the
-- first list, and the second list is sought through for the key of x.
use Prim.Native.Nat.{ℕ, suc, ◌<◌, ◌≤◌}
use mathlib.Core.Path.{◌≡◌, refl, sym, ap, ◌∙◌}
use mathlib.Core.Logic.{inl, inr}
use mathlib.Core.Bool.{Bool, true, false, cond, not, ◌&&◌, ◌||◌}
use mathlib.Core.List.{List, [], ◌∷◌, ◌++◌}
use native.Mathlib.Omega.{arith}
use lib.Dec.{ltb}
use borrow.Author.Tests.{ltb-true, ltb-false, eq-eqb, ne_eqb}
use Rattle.format_fields.specs.Lists.{all, any, keep}
use Rattle.format_fields.specs.Keyed.{Order, place, insert, union, holds, within, without}
use Rattle.format_fields.proofs.Truth.{Mem, by_test, false_any, equal_numbers}
use Rattle.format_fields.proofs.Keyed.{Compared, is_below, is_same, is_above, compared, From, from_weaken, from_mem, union_from}
use Rattle.format_language.specs.Inner.Entries.{class_range}
use Rattle.format_language.proofs.Ranges.{within_itself}
use Rattle.reduce_merge.specs.Inner.Parts.{Part, part_key, same_part, part_within, lower, seek, leads}
use Rattle.reduce_merge.proofs.Walks.{seek_skip, lower_skip, seek_stop, lower_stop}

-- An entry goes in front of what is above it, past what is below it, and in the place of one with its key.
module _ {A : Type 0} (key : A → ℕ) where
  insert_front : (x : A) (l : List A) → From key (suc (key x)) l → insert key x l ≡ x ∷ l
  unfolding insert
  insert_front x [] f = refl
  insert_front x (y ∷ l) f = go (compared (key x) (key y))
    where
      go : {o : Order} → Compared (key x) (key y) o → place key x y l (insert key x l) o ≡ x ∷ y ∷ l
      go (is_below h) = refl
      go (is_same h) = absurd (omega (arith, f.0))
      go (is_above h) = absurd (omega (arith, f.0))

  insert_skip : (x y : A) (l : List A) → key y < key x → insert key x (y ∷ l) ≡ y ∷ insert key x l
  unfolding insert
  insert_skip x y l h = go (compared (key x) (key y))
    where
      go : {o : Order} → Compared (key x) (key y) o → place key x y l (insert key x l) o ≡ y ∷ insert key x l
      go (is_below q) = absurd (omega arith)
      go (is_same q) = absurd (omega arith)
      go (is_above q) = refl

  insert_same : (x y : A) (l : List A) → key y ≡ key x → insert key x (y ∷ l) ≡ x ∷ l
  unfolding insert
  insert_same x y l h = go (compared (key x) (key y))
    where
      go : {o : Order} → Compared (key x) (key y) o → place key x y l (insert key x l) o ≡ x ∷ l
      go (is_below q) = absurd (omega arith)
      go (is_same q) = refl
      go (is_above q) = absurd (omega arith)

  union_cons : (x : A) (l m : List A) → union key (x ∷ l) m ≡ insert key x (union key l m)
  unfolding union
  union_cons x l m = refl

  pub union_none : (m : List A) → union key [] m ≡ m
  unfolding union
  union_none m = refl

  union_front : (y : A) (l m : List A) → From key (suc (key y)) l → union key l (y ∷ m) ≡ y ∷ union key l m
  union_front y [] m f = union_none (y ∷ m) ∙ ap (λ (r : List A). y ∷ r) (sym (union_none m))
  union_front y (x ∷ l) m f =
      union_cons x l (y ∷ m)
      ∙ (ap (insert key x) (union_front y l m (from_weaken key l (omega (arith, f.0)) f.1))
      ∙ (insert_skip x y (union key l m) f.0
      ∙ ap (λ (r : List A). y ∷ r) (sym (union_cons x l m))))

-- What is sought through.
pub seek_none : (k : ℕ) → seek k [] ≡ []
unfolding seek
seek_none k = refl

lower_none : (k : ℕ) → lower k [] ≡ []
unfolding lower
lower_none k = refl

pub seek_from : (k n : ℕ) (l : List Part) → From part_key n l → From part_key k (seek k l)
seek_from k n [] f = rw (seek_none k) tt
seek_from k n (a ∷ l) f =
    by_test (ltb a.key k)
    (λ e. rw (seek_skip k a l (ltb-true _ _ e)) (seek_from k (suc a.key) l f.1))
    (λ e. rw (seek_stop k a l (ltb-false _ _ e)) (ltb-false _ _ e, f.1))

pub seek_all : (k : ℕ) (l : List Part) → From part_key k l → seek k l ≡ l
seek_all k [] f = seek_none k
seek_all k (a ∷ l) f = seek_stop k a l f.0

pub seek_further : (j k : ℕ) → j ≤ k → (l : List Part) → seek k (seek j l) ≡ seek k l
seek_further j k h [] = ap (seek k) (seek_none j)
seek_further j k h (a ∷ l) =
    by_test (ltb a.key j)
    (λ e.
    let d : a.key < j = ltb-true _ _ e in
    let g : a.key < k = omega arith in
    ap (seek k) (seek_skip j a l d) ∙ (seek_further j k h l ∙ sym (seek_skip k a l g)))
    (λ e. ap (seek k) (seek_stop j a l (ltb-false _ _ e)))

-- The union: what is below x in the second list, x, and the union of what is above x in both.
pub union_turn : (x : Part) (l : List Part) → From part_key (suc x.key) l → (n : ℕ) (m : List Part) → From part_key n m
    → union part_key (x ∷ l) m ≡ lower x.key m ++ x ∷ union part_key l (seek (suc x.key) m)
union_turn x l f n [] g =
    rw (lower_none x.key, seek_none (suc x.key))
    (union_cons part_key x l [] ∙ insert_front part_key x (union part_key l []) (union_from part_key (suc x.key) l [] f tt))
union_turn x l f n (y ∷ m) g = go (union_turn x l f (suc y.key) m g.1) (compared y.key x.key)
  where
    go : {o : Order} → union part_key (x ∷ l) m ≡ lower x.key m ++ x ∷ union part_key l (seek (suc x.key) m) → Compared y.key x.key o
        → union part_key (x ∷ l) (y ∷ m) ≡ lower x.key (y ∷ m) ++ x ∷ union part_key l (seek (suc x.key) (y ∷ m))
    go more (is_below h) =
        rw (lower_skip x.key y m h, seek_skip (suc x.key) y m (omega arith), union_cons part_key x l (y ∷ m), union_front part_key y l m (from_weaken part_key l (omega arith) f))
        (insert_skip part_key x y (union part_key l m) h ∙ ap (λ (r : List Part). y ∷ r) (sym (union_cons part_key x l m) ∙ more))
    go more (is_same h) =
        let d : From part_key (suc x.key) m = rw h at g.1 in
        rw (lower_stop x.key y m (omega arith), seek_skip (suc x.key) y m (omega arith), seek_all (suc x.key) m d, union_cons part_key x l (y ∷ m), union_front part_key y l m (from_weaken part_key l (omega arith) f))
        (insert_same part_key x y (union part_key l m) h)
    go more (is_above h) =
        rw (lower_stop x.key y m (omega arith), seek_stop (suc x.key) y m h, union_cons part_key x l (y ∷ m))
        (insert_front part_key x (union part_key l (y ∷ m)) (union_from part_key (suc x.key) l (y ∷ m) f (h, g.1)))

-- The union where nothing is below x in the second list: its first field y is above x, or has the key of x.
module _ (x y : Part) (l m : List Part) (n : ℕ) (f : From part_key (suc x.key) l) (g : From part_key n (y ∷ m)) where
  pub union_low : x.key < y.key → union part_key (x ∷ l) (y ∷ m) ≡ x ∷ union part_key l (y ∷ m)
  union_low h =
      let turn = union_turn x l f n (y ∷ m) g in
      rw (lower_stop x.key y m (omega arith), seek_stop (suc x.key) y m h) at turn

  pub union_same : y.key ≡ x.key → union part_key (x ∷ l) (y ∷ m) ≡ x ∷ union part_key l m
  union_same h =
      let turn = union_turn x l f n (y ∷ m) g in
      let d : From part_key (suc x.key) m = rw h at g.1 in
      rw (lower_stop x.key y m (omega arith), seek_skip (suc x.key) y m (omega arith), seek_all (suc x.key) m d) at turn

-- The union with nothing.
pub union_nothing : (n : ℕ) (l : List Part) → From part_key n l → union part_key l [] ≡ l
union_nothing n [] f = union_none part_key []
union_nothing n (x ∷ l) f =
    let turn = union_turn x l f.1 0 [] tt in
    let here : union part_key (x ∷ l) [] ≡ x ∷ union part_key l [] = rw (lower_none x.key, seek_none (suc x.key)) at turn in
    here ∙ ap (λ (r : List Part). x ∷ r) (union_nothing (suc x.key) l f.1)

lower_seek : (k : ℕ) (m : List Part) → lower k (seek k m) ≡ []
lower_seek k [] = ap (lower k) (seek_none k) ∙ lower_none k
lower_seek k (a ∷ l) =
    by_test (ltb a.key k)
    (λ e. ap (lower k) (seek_skip k a l (ltb-true _ _ e)) ∙ lower_seek k l)
    (λ e. ap (lower k) (seek_stop k a l (ltb-false _ _ e)) ∙ lower_stop k a l (ltb-false _ _ e))

-- What is below x in the second list comes first in the union.
pub union_high : (x : Part) (l : List Part) → From part_key (suc x.key) l → (n : ℕ) (m : List Part) → From part_key n m
    → union part_key (x ∷ l) m ≡ lower x.key m ++ union part_key (x ∷ l) (seek x.key m)
union_high x l f n m g =
    let k = x.key in
    let turn = union_turn x l f k (seek k m) (seek_from k n m g) in
    let rest : union part_key (x ∷ l) (seek k m) ≡ x ∷ union part_key l (seek (suc k) m) =
    rw (lower_seek k m, seek_further k (suc k) (omega arith) m) at turn in
    union_turn x l f n m g ∙ ap (λ (r : List Part). lower k m ++ r) (sym rest)

or_false : (b : Bool) → b || false ≡ b
or_false true = refl
or_false false = refl

-- Tests that are alike on the members.
keep_alike : {A : Type 0} (f g : A → Bool) (l : List A) → ((a : A) → Mem a l → f a ≡ g a) → keep f l ≡ keep g l
unfolding keep
keep_alike f g [] h = refl
keep_alike f g (a ∷ l) h = rw (h a (inl refl), keep_alike f g l (λ b q. h b (inr q)))

pub all_alike : {A : Type 0} (f g : A → Bool) (l : List A) → ((a : A) → Mem a l → f a ≡ g a) → all f l ≡ all g l
unfolding all
all_alike f g [] h = refl
all_alike f g (a ∷ l) h = rw (h a (inl refl), all_alike f g l (λ b q. h b (inr q)))

-- A test that holds of no two fields of different keys.
module _ (alike : Part → Part → Bool) (apart : (x y : Part) → (x.key ≡ y.key → ⊥) → alike x y ≡ false) where
  -- A field whose key is k or more stands in what is left exactly if it stands in all.
  seek_holds : (k : ℕ) (x : Part) → k ≤ x.key → (m : List Part) → holds alike m x ≡ holds alike (seek k m) x
  unfolding holds any
  seek_holds k x h [] = rw (seek_none k)
  seek_holds k x h (y ∷ m) =
      by_test (ltb y.key k)
      (λ e.
      let d : y.key < k = ltb-true _ _ e in
      rw (seek_skip k y m d, apart x y (λ q. omega arith)) (seek_holds k x h m))
      (λ e. rw (seek_stop k y m (ltb-false _ _ e)))

  -- It stands in a rising list of keys not below its own exactly if it comes first.
  leads_holds : (x : Part) (m : List Part) → From part_key x.key m → holds alike m x ≡ leads alike x m
  unfolding holds any
  leads_holds x [] f = refl
  leads_holds x (y ∷ m) f =
      let none : any (alike x) m ≡ false = false_any (alike x) m (λ z q. apart x z (λ e. omega (arith, f.0, from_mem part_key m f.1 q))) in
      rw none (or_false (alike x y))

  found : (x : Part) (n : ℕ) (m : List Part) → From part_key n m → holds alike m x ≡ leads alike x (seek x.key m)
  found x n m f = seek_holds x.key x (omega arith) m ∙ leads_holds x (seek x.key m) (seek_from x.key n m f)

  -- "Without" and "within", a turn at a time.
  module _ (x : Part) (l : List Part) (f : From part_key (suc x.key) l) (n : ℕ) (m : List Part) (g : From part_key n m) where
    -- further fields stand in what is left as they stand in all
    further : (a : Part) → Mem a l → holds alike m a ≡ holds alike (seek x.key m) a
    further a q = seek_holds x.key a (omega (arith, from_mem part_key l f q)) m

    pub without_turn : without alike (x ∷ l) m
        ≡ cond (not (leads alike x (seek x.key m))) (x ∷ without alike l (seek x.key m)) (without alike l (seek x.key m))
    unfolding without keep
    without_turn =
        rw (found x n m g, keep_alike (λ a. not (holds alike m a)) (λ a. not (holds alike (seek x.key m) a)) l (λ a q. ap not (further a q)))

    pub within_turn : within alike (x ∷ l) m ≡ leads alike x (seek x.key m) && within alike l (seek x.key m)
    unfolding within all
    within_turn = rw (found x n m g, all_alike (holds alike m) (holds alike (seek x.key m)) l further)

  -- Where both lists begin with x, it stands in the second, and of the others as many stand in what is left of it.
  module _ (self : (x : Part) → alike x x ≡ true) (x : Part) (l : List Part) (f : From part_key (suc x.key) l) (m : List Part) where
    past_first : (a : Part) → Mem a l → holds alike (x ∷ m) a ≡ holds alike m a
    unfolding holds any
    past_first a q = rw (apart a x (λ e. omega (arith, from_mem part_key l f q)))

    first_holds : holds alike (x ∷ m) x ≡ true
    unfolding holds any
    first_holds = rw (self x)

    pub within_same : within alike (x ∷ l) (x ∷ m) ≡ within alike l m
    unfolding within all
    within_same = rw (first_holds, all_alike (holds alike (x ∷ m)) (holds alike m) l past_first)

    pub without_same : without alike (x ∷ l) (x ∷ m) ≡ without alike l m
    unfolding without keep
    without_same =
        rw (first_holds, keep_alike (λ a. not (holds alike (x ∷ m) a)) (λ a. not (holds alike m a)) l (λ a q. ap not (past_first a q)))

-- Fields of different keys are not the same, and a field is the same as itself.
pub differ : (x y : Part) → (x.key ≡ y.key → ⊥) → same_part x y ≡ false
unfolding same_part
differ x y h = rw (ne_eqb x.key y.key h)

pub self : (x : Part) → same_part x x ≡ true
unfolding same_part
self x = rw (eq-eqb x.key x.key refl, equal_numbers x.bytes)

-- Fields of different keys do not lie in each other, and a field lies in itself.
pub outside : (x y : Part) → (x.key ≡ y.key → ⊥) → part_within x y ≡ false
unfolding part_within
outside x y h = rw (ne_eqb x.key y.key h)

pub inside_itself : (x : Part) → part_within x x ≡ true
unfolding part_within
inside_itself x =
    rw (eq-eqb x.key x.key refl, within_itself (class_range x.bytes 0), equal_numbers x.bytes) (either (ltb x.key 32))
  where
    either : (t : Bool) → cond t true true ≡ true
    either true = refl
    either false = refl
