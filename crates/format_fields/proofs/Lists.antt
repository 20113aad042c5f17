-- Laws of the words on lists, one element at a time.
use Prim.Native.Nat.{ℕ, suc, ◌+◌, ◌<◌, ◌≤◌}
use mathlib.Core.Path.{◌≡◌, refl, sym, ap, ◌∙◌}
use mathlib.Core.Bool.{Bool, true, false, cond, ◌&&◌, ◌||◌}
use mathlib.Core.List.{List, [], ◌∷◌, map}
use mathlib.Core.Option.{none, some}
use native.Mathlib.Omega.{arith}
use native.Mathlib.Numerals.{add-one}
use Rattle.std.specs.List.{list_all, list_any}
use lib.ListN.{length, get_or, take, drop, length-take, drop_of_length-le}
use lib.Seq.{slice, slice-cons, take-add, drop_at, drop-drop, length-take-le}
use borrow.Author.Tests.{le-leb, lt-leb}
use Rattle.format_fields.specs.Lists.{all, any, before, is_some}
use Rattle.format_fields.proofs.Truth.{and_both}
pub use Rattle.format_fields.proofs.Truth.{by_test}
use Rattle.format_fields.specs.Keyed.{rising_from}

-- Lists that are equal, by their first elements and what follows them.
pub cons_both : {A : Type 0} {x y : A} {r s : List A} → x ∷ r ≡ y ∷ s → (x ≡ y) × (r ≡ s)
cons_both e = (cc, cc)

-- What the library's `all` and `any` come to over a slice.
pub all_is : {A : Type 0} (f : A → Bool) (l : List A) → list_all f l ≡ all f l
unfolding all
all_is f [] = refl
all_is f (a ∷ l) = ap (λ (b : Bool). f a && b) (all_is f l)

pub any_is : {A : Type 0} (f : A → Bool) (l : List A) → list_any f l ≡ any f l
unfolding any
any_is f [] = refl
any_is f (a ∷ l) = ap (λ (b : Bool). f a || b) (any_is f l)

-- A turn of a pass over a list: x is what the whole pass comes to.
module _ {A : Type 0} (f : A → Bool) (a : A) (l : List A) {x : Bool} where
  pub all_stop : all f (a ∷ l) ≡ x → f a ≡ false → false ≡ x
  unfolding all
  all_stop e h = rw h at e

  pub all_next : all f (a ∷ l) ≡ x → f a ≡ true → all f l ≡ x
  unfolding all
  all_next e h = rw h at e

  pub any_stop : any f (a ∷ l) ≡ x → f a ≡ true → true ≡ x
  unfolding any
  any_stop e h = rw h at e

  pub any_next : any f (a ∷ l) ≡ x → f a ≡ false → any f l ≡ x
  unfolding any
  any_next e h = rw h at e

module _ {A : Type 0} (key : A → ℕ) (n : ℕ) (a : A) (l : List A) {x : Bool} (e : rising_from key n (a ∷ l) ≡ x) where
  pub rising_stop : key a < n → false ≡ x
  unfolding rising_from
  rising_stop h = rw (lt-leb n (key a) h) at e

  pub rising_next : n ≤ key a → rising_from key (suc (key a)) l ≡ x
  unfolding rising_from
  rising_next h = rw (le-leb n (key a) h) at e

-- Every element passes two tests if every element passes both.
and_four : (a b c d : Bool) → (a && b) && (c && d) ≡ (a && c) && (b && d)
and_four true true c d = refl
and_four true false true d = refl
and_four true false false d = refl
and_four false b c d = refl

pub all_and : {A : Type 0} (f g : A → Bool) (l : List A) → all (λ a. f a && g a) l ≡ all f l && all g l
unfolding all
all_and f g [] = refl
all_and f g (a ∷ l) = ap (λ (b : Bool). (f a && g a) && b) (all_and f g l) ∙ and_four (f a) (g a) (all f l) (all g l)

-- The first passes, and all others, where all do.
pub all_true : {A : Type 0} (f : A → Bool) (a : A) (l : List A) → all f (a ∷ l) ≡ true → (f a ≡ true) × (all f l ≡ true)
unfolding all
all_true f a l e = and_both (f a) (all f l) e

-- Some element passes: of a mapped list, of tests that agree where another holds, of the test that none passes.
pub any_map : {A B : Type 0} (f : B → Bool) (g : A → B) (l : List A) → any f (map g l) ≡ any (λ a. f (g a)) l
unfolding any
any_map f g [] = refl
any_map f g (a ∷ l) = ap (λ (b : Bool). f (g a) || b) (any_map f g l)

pub any_same : {A : Type 0} (ok f g : A → Bool) → ((a : A) → ok a ≡ true → f a ≡ g a) → (l : List A) → all ok l ≡ true → any f l ≡ any g l
unfolding any
any_same ok f g same [] h = refl
any_same ok f g same (a ∷ l) h =
    let w = all_true ok a l h in
    rw (same a w.0, any_same ok f g same l w.1)

pub any_none : {A : Type 0} (l : List A) → any (λ a. false) l ≡ false
unfolding any
any_none [] = refl
any_none (a ∷ l) = any_none l

-- Whether a pair of elements of two lists passes does not depend on which list is gone through first.
or_four : (a b c d : Bool) → (a || b) || (c || d) ≡ (a || c) || (b || d)
or_four true b c d = refl
or_four false true true d = refl
or_four false true false d = refl
or_four false false c d = refl

any_or : {A : Type 0} (f g : A → Bool) (l : List A) → any (λ a. f a || g a) l ≡ any f l || any g l
unfolding any
any_or f g [] = refl
any_or f g (a ∷ l) = ap (λ (b : Bool). (f a || g a) || b) (any_or f g l) ∙ or_four (f a) (g a) (any f l) (any g l)

pub any_swap : {A B : Type 0} (f : A → B → Bool) (l : List A) (m : List B) → any (λ a. any (f a) m) l ≡ any (λ b. any (λ a. f a b) l) m
unfolding any
any_swap f [] m = sym (any_none m)
any_swap f (a ∷ l) m = ap (λ (b : Bool). any (f a) m || b) (any_swap f l m) ∙ sym (any_or (f a) (λ b. any (λ c. f c b) l) m)

-- Keys of a mapped list.
pub rising_map : {A B : Type 0} (key : B → ℕ) (g : A → B) (mine : A → ℕ) → ((a : A) → key (g a) ≡ mine a) → (n : ℕ) (l : List A)
    → rising_from key n (map g l) ≡ rising_from mine n l
unfolding rising_from
rising_map key g mine same n [] = refl
rising_map key g mine same n (a ∷ l) = rw (same a, rising_map key g mine same (suc (mine a)) l)

-- A value in front of more, that are there under a condition.
before_cond : {A : Type 0} (a : A) (b : Bool) (l : List A) → before (some a) (cond b (some l) none) ≡ cond b (some (a ∷ l)) none
before_cond a true l = refl
before_cond a false l = refl

pub before_conds : {A : Type 0} (c b : Bool) (a : A) (l : List A)
    → before (cond c (some a) none) (cond b (some l) none) ≡ cond (c && b) (some (a ∷ l)) none
before_conds true b a l = before_cond a b l
before_conds false b a l = refl

-- What is there under a condition is there if the condition holds.
pub there_if : {A : Type 0} (b : Bool) (a : A) → is_some (cond b (some a) none) ≡ b
there_if true a = refl
there_if false a = refl

-- The n bytes from q on are a part, and so is that part past its first m.
pub part_is : (s : List ℕ) (q n : ℕ) → q ≤ length s → take n (drop q s) ≡ slice q (q + n) s
part_is s q n h = sym (ap (drop q) (take-add q n s) ∙ drop_at (take q s) (take n (drop q s)) q (length-take-le q s h))

pub part_past : (s : List ℕ) (q e m : ℕ) → drop m (slice q e s) ≡ slice (q + m) e s
part_past s q e m = drop-drop m q (take e s)

slice_done : (s : List ℕ) (q e : ℕ) → e ≤ q → slice q e s ≡ []
slice_done s q e h = drop_of_length-le (take e s) {i = q} (simp length-take (omega arith))

-- A pass of the code over the bytes from q up to e, that comes to x in all: at the end, and at a byte.
module _ {X : Type 0} (pass : List ℕ → X) (s : List ℕ) (q e : ℕ) (x : X) (inv : pass (slice q e s) ≡ x) where
  pub part_done : e ≤ q → pass [] ≡ x
  part_done h = rw (slice_done s q e h) at inv

  pub part_next : q < e → e ≤ length s → pass (get_or s q 0 ∷ slice (q + 1) e s) ≡ x
  part_next h k = rw add-one (rw (slice-cons q e s 0 h k) at inv)
