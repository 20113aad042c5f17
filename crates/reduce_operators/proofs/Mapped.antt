-- Operations by key on lists that are mapped, where the map g keeps the keys and tells the same entries apart.
use Prim.Native.Nat.{ℕ}
use mathlib.Core.Path.{◌≡◌, refl, ap, ◌∙◌}
use mathlib.Core.Logic.{inl, inr}
use mathlib.Core.Bool.{Bool, true, false, cond, not}
use mathlib.Core.List.{List, [], ◌∷◌, map}
use Rattle.format_fields.specs.Lists.{all, any, keep}
use Rattle.format_fields.proofs.Truth.{Mem}
use Rattle.format_fields.specs.Keyed.{Order, below, same, above, order, place, insert, union, holds, within, without, agree}

module _ {A B : Type 0} (g : A → B) where
  -- Tests on a mapped list, where they are alike on each element.
  all_mapped : (f : B → Bool) (h : A → Bool) → ((a : A) → f (g a) ≡ h a) → (l : List A) → all f (map g l) ≡ all h l
  unfolding all
  all_mapped f h e [] = refl
  all_mapped f h e (a ∷ l) = rw (e a, all_mapped f h e l)

  any_mapped : (f : B → Bool) (h : A → Bool) → ((a : A) → f (g a) ≡ h a) → (l : List A) → any f (map g l) ≡ any h l
  unfolding any
  any_mapped f h e [] = refl
  any_mapped f h e (a ∷ l) = rw (e a, any_mapped f h e l)

  map_cond : (t : Bool) (a : A) (l : List A) → cond t (g a ∷ map g l) (map g l) ≡ map g (cond t (a ∷ l) l)
  map_cond true a l = refl
  map_cond false a l = refl

  keep_mapped : (f : B → Bool) (h : A → Bool) → ((a : A) → f (g a) ≡ h a) → (l : List A) → keep f (map g l) ≡ map g (keep h l)
  unfolding keep
  keep_mapped f h e [] = refl
  keep_mapped f h e (a ∷ l) = rw (e a, keep_mapped f h e l) (map_cond (h a) a (keep h l))

  module _ (key : B → ℕ) (mine : A → ℕ) (keys : (a : A) → key (g a) ≡ mine a) where
    insert_mapped : (x : A) (l : List A) → insert key (g x) (map g l) ≡ map g (insert mine x l)
    unfolding insert
    insert_mapped x [] = refl
    insert_mapped x (y ∷ l) = rw (keys x, keys y) (go (insert_mapped x l) (order (mine x) (mine y)))
      where
        go : insert key (g x) (map g l) ≡ map g (insert mine x l) → (o : Order)
            → place key (g x) (g y) (map g l) (insert key (g x) (map g l)) o ≡ map g (place mine x y l (insert mine x l) o)
        go e below = refl
        go e same = refl
        go e above = ap (λ (r : List B). g y ∷ r) e

    pub union_mapped : (l m : List A) → union key (map g l) (map g m) ≡ map g (union mine l m)
    unfolding union
    union_mapped [] m = refl
    union_mapped (x ∷ l) m = ap (insert key (g x)) (union_mapped l m) ∙ insert_mapped x (union mine l m)

  module _ (alike : B → B → Bool) (equal : A → A → Bool) (tells : (a b : A) → alike (g a) (g b) ≡ equal a b) where
    holds_mapped : (m : List A) (a : A) → holds alike (map g m) (g a) ≡ holds equal m a
    unfolding holds
    holds_mapped m a = any_mapped (alike (g a)) (equal a) (tells a) m

    pub without_mapped : (l m : List A) → without alike (map g l) (map g m) ≡ map g (without equal l m)
    unfolding without
    without_mapped l m = keep_mapped (λ b. not (holds alike (map g m) b)) (λ a. not (holds equal m a)) (λ a. ap not (holds_mapped m a)) l

    pub agree_mapped : (key : B → ℕ) (mine : A → ℕ) → ((a : A) → key (g a) ≡ mine a) → (l m : List A)
        → agree key alike (map g l) (map g m) ≡ agree mine equal l m
    unfolding agree
    agree_mapped key mine keys l m =
        all_mapped _ _ (λ a. all_mapped _ _ (λ b. rw (keys a, keys b, tells a b)) m) l

  -- The same where they are alike on the members.
  all_among : (f : B → Bool) (h : A → Bool) (l : List A) → ((a : A) → Mem a l → f (g a) ≡ h a) → all f (map g l) ≡ all h l
  unfolding all
  all_among f h [] e = refl
  all_among f h (a ∷ l) e = rw (e a (inl refl), all_among f h l (λ b m. e b (inr m)))

  any_among : (f : B → Bool) (h : A → Bool) (l : List A) → ((a : A) → Mem a l → f (g a) ≡ h a) → any f (map g l) ≡ any h l
  unfolding any
  any_among f h [] e = refl
  any_among f h (a ∷ l) e = rw (e a (inl refl), any_among f h l (λ b m. e b (inr m)))

  pub within_mapped : (alike : B → B → Bool) (equal : A → A → Bool) (l m : List A) → ((a b : A) → Mem a l → Mem b m → alike (g a) (g b) ≡ equal a b)
      → within alike (map g l) (map g m) ≡ within equal l m
  unfolding within holds
  within_mapped alike equal l m tells = all_among _ _ l (λ a x. any_among (alike (g a)) (equal a) m (λ b y. tells a b x y))
