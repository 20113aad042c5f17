-- Membership as the project's proofs have it, and as the report's rules have it.
use Prim.Native.Nat.{ℕ, ◌<◌}
use mathlib.Core.Path.{◌≡◌, refl}
use mathlib.Core.Logic.{◌⊎◌, inl, inr, ⊎_elim, ◌↔◌}
use mathlib.Core.Bool.{true}
use mathlib.Core.List.{List, [], ◌∷◌}
use Rattle.format_fields.specs.Keyed.{rising}
use Rattle.format_fields.proofs.Truth.{Mem}
use Rattle.format_fields.proofs.Keyed.{is_rising, rising_ext, from_agree}
use Rattle.format_fields.proofs.Codec.{Bytes}
use Rattle.report.specs.Sets.{◌∈◌, here, later}

pub mem_in : {A : Type 0} (a : A) (l : List A) → Mem a l → a ∈ l
mem_in a (b ∷ l) (inl e) = rw e here
mem_in a (b ∷ l) (inr m) = later (mem_in a l m)
mem_in {A = A} a [] x' = elim x' [ ]

pub in_mem : {A : Type 0} {a : A} {l : List A} → a ∈ l → Mem a l
in_mem here = inl refl
in_mem (later m) = inr (in_mem m)

-- A member of one or the other.
pub in_either : {A : Type 0} {a : A} {l m : List A} → Mem a l ⊎ Mem a m → (a ∈ l) ⊎ (a ∈ m)
in_either x = ⊎_elim (λ p. inl (mem_in _ _ p)) (λ p. inr (mem_in _ _ p)) x

pub either_in : {A : Type 0} {a : A} {l m : List A} → (a ∈ l) ⊎ (a ∈ m) → Mem a l ⊎ Mem a m
either_in x = ⊎_elim (λ p. inl (in_mem p)) (λ p. inr (in_mem p)) x

-- A set is written in one way: rising lists with the same members are equal.
pub one_way : {A : Type 0} (key : A → ℕ) (P : A → Type 0) (l m : List A) → rising key l ≡ true → rising key m ≡ true
    → ((a : A) → a ∈ l ↔ P a) → ((a : A) → a ∈ m ↔ P a) → l ≡ m
one_way key P l m r s p q =
    rising_ext key 0 0 l m (is_rising key l r) (is_rising key m s)
    (λ a x. in_mem ((q a).1 ((p a).0 (mem_in a l x))))
    (λ a x. in_mem ((p a).1 ((q a).0 (mem_in a m x))))

-- Of each key there is one member.
pub one_of_key : {A : Type 0} (key : A → ℕ) (l : List A) → rising key l ≡ true → (a b : A) → a ∈ l → b ∈ l → key a ≡ key b → a ≡ b
one_of_key key l r a b x y e = from_agree key 0 l (is_rising key l r) a b (in_mem x) (in_mem y) e

-- What is in bytes.
pub mem_bytes : (c : List ℕ) → ((x : ℕ) → x ∈ c → x < 256) → Bytes c
mem_bytes [] h = tt
mem_bytes (x ∷ c) h = (h x here, mem_bytes c (λ y m. h y (later m)))
