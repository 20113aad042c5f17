-- Entries with lesser keys that are passed: a law for each return and turn of `skip_below`.
use Prim.Native.Nat.{ℕ, ◌<◌, ◌≤◌}
use mathlib.Core.Path.{◌≡◌, refl, sym, ap, ◌∙◌}
use mathlib.Core.Bool.{Bool, true}
use mathlib.Core.List.{List, [], ◌∷◌, ◌++◌}
use lib.ListN.{length}
use lib.Seq.{append_snoc}
use lib.Dec.{ltb}
use borrow.Author.Tests.{lt-ltb, leb-true}
use Rattle.format_fields.specs.Lists.{all}
use Rattle.format_fields.specs.Inner.Places.{field_end, is_whole, long_at, places_from, order_at, Skipped}
use Rattle.format_fields.proofs.Truth.{both_and}
use Rattle.format_fields.proofs.Lists.{all_true}
use Rattle.format_fields.proofs.Places.{places_next, every_here, every_after}

pub all_append : {A : Type 0} (f : A → Bool) (l m : List A) → all f l ≡ true → all f (l ++ m) ≡ all f m
unfolding all
all_append f [] m h = refl
all_append f (a ∷ l) m h = let w = all_true f a l h in rw w.0 (all_append f l m w.1)

-- Those from p up to q were passed.
pub record Passed (tag least : ℕ) (s : List ℕ) (p q : ℕ) : Type 0 where
  pub before : List ℕ
  pub are : places_from s p ≡ before ++ places_from s q
  pub below : all (λ x. ltb (order_at tag s x) least) before ≡ true
  pub long : all (long_at s) (places_from s q) ≡ true
  pub inside : all (is_whole s) (places_from s p) ≡ true → p ≤ length s → (all (is_whole s) (places_from s q) ≡ true) × (q ≤ length s)

pub skip_start : (tag least : ℕ) (s : List ℕ) (p : ℕ) → all (long_at s) (places_from s p) ≡ true → Passed tag least s p p
unfolding all
skip_start tag least s p h = record { before = []; are = refl; below = refl; long = h; inside = λ w i. (w, i) }

pub skip_next : (tag least : ℕ) (s : List ℕ) (p q : ℕ) → Passed tag least s p q → q < length s → (key : ℕ) → key ≡ order_at tag s q → key < least
    → (e : ℕ) → e ≡ field_end s q → Passed tag least s p e
unfolding all is_whole
skip_next tag least s p q z h key ek k e ee = record {
  before = z.before ++ (q ∷ []);
  are = z.are
      ∙ (ap (λ (l : List ℕ). z.before ++ l) (places_next s q h)
      ∙ (sym (append_snoc z.before q (places_from s (field_end s q)))
      ∙ ap (λ (j : ℕ). (z.before ++ (q ∷ [])) ++ places_from s j) (sym ee)));
  below = all_append (λ x. ltb (order_at tag s x) least) z.before (q ∷ []) z.below ∙ both_and (ltb (order_at tag s q) least) true (rw (← ek) (lt-ltb key least k)) refl;
  long = every_after (long_at s) s q e ee z.long h;
  inside = λ w i.
      let r = z.inside w i in
      let g = every_here (is_whole s) s q r.0 h in
      rw ee (g.1, leb-true (field_end s q) (length s) g.0);
}

pub skip_stop : (tag least : ℕ) (s : List ℕ) (p q : ℕ) → Passed tag least s p q → (q < length s → least ≤ order_at tag s q) → Skipped tag least s p q
skip_stop tag least s p q z h = record { before = z.before; are = z.are; below = z.below; stops = h; inside = λ w i. (z.inside w i).1 }
