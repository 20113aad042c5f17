-- Lookups in a body, and the numbers of a kind, by its members.
use Prim.Native.Nat.{ℕ}
use mathlib.Core.Path.{◌≡◌, refl, sym}
use mathlib.Core.Logic.{inl, inr}
use mathlib.Core.Bool.{Bool, true, false, cond, ◌&&◌}
use mathlib.Core.Option.{some}
use mathlib.Core.List.{List, [], ◌∷◌}
use lib.Dec.{eqb}
use borrow.Author.Tests.{eqb-true, eq-eqb}
use Rattle.format_fields.specs.Lists.{same_numbers}
use Rattle.format_fields.proofs.Truth.{Mem, none_some, false_true, and_both, first_mem, mem_first, concat_cases, mem_concat, numbers_equal, equal_numbers}
use Rattle.format_fields.proofs.Keyed.{Rising, from_agree}
use Rattle.format_language.proofs.Lookup.{cond_some}
use Rattle.format_translation.specs.Translation.{Item, mapping, clause, Body, plain_key, number_of, item_key, same_item, target_at, mapping_of, code_at, clause_of, mapped, number_at, numbers_of}

-- Items that are the same are equal.
pub same_equal : (a b : Item) → same_item a b ≡ true → a ≡ b
unfolding same_item
same_equal (mapping s i t) (mapping u j v) e =
    let r = and_both (eqb s u) (eqb i j && eqb t v) e in
    let w = and_both (eqb i j) (eqb t v) r.1 in
    λ x. mapping (eqb-true s u r.0 x) (eqb-true i j w.0 x) (eqb-true t v w.1 x)
same_equal (mapping s i t) (clause q m j d) e = false_true e
same_equal (clause r p i c) (mapping u j v) e = false_true e
same_equal (clause r p i c) (clause q m j d) e =
    let u = and_both (eqb r q) (eqb p m && (eqb i j && same_numbers c d)) e in
    let v = and_both (eqb p m) (eqb i j && same_numbers c d) u.1 in
    let w = and_both (eqb i j) (same_numbers c d) v.1 in
    λ x. clause (eqb-true r q u.0 x) (eqb-true p m v.0 x) (eqb-true i j w.0 x) (numbers_equal c d w.1 x)

pub equal_same : (a : Item) → same_item a a ≡ true
unfolding same_item
equal_same (mapping s i t) = rw (eq-eqb s s refl, eq-eqb i i refl, eq-eqb t t refl)
equal_same (clause r p i c) = rw (eq-eqb r r refl, eq-eqb p p refl, eq-eqb i i refl, equal_numbers c)

target_at_lem : (k j t : ℕ) (a : Item) → target_at k j a ≡ some t → a ≡ mapping k j t
unfolding target_at
target_at_lem k j t (mapping s i u) e =
    let r = cond_some (eqb s k && eqb i j) u t e in
    let v = and_both (eqb s k) (eqb i j) r.0 in
    λ x. mapping (eqb-true s k v.0 x) (eqb-true i j v.1 x) (r.1 x)
target_at_lem k j t (clause r p i c) e = none_some e

code_at_lem : (k p j : ℕ) (c : List ℕ) (a : Item) → code_at k p j a ≡ some c → a ≡ clause k p j c
unfolding code_at
code_at_lem k p j c (mapping s i u) e = none_some e
code_at_lem k p j c (clause r q i d) e =
    let u = cond_some (eqb r k && (eqb q p && eqb i j)) d c e in
    let v = and_both (eqb r k) (eqb q p && eqb i j) u.0 in
    let w = and_both (eqb q p) (eqb i j) v.1 in
    λ x. clause (eqb-true r k v.0 x) (eqb-true q p w.0 x) (eqb-true i j w.1 x) (u.1 x)

pub at_target : (k j t : ℕ) → target_at k j (mapping k j t) ≡ some t
unfolding target_at
at_target k j t = rw (eq-eqb k k refl, eq-eqb j j refl)

pub at_code : (k p j : ℕ) (c : List ℕ) → code_at k p j (clause k p j c) ≡ some c
unfolding code_at
at_code k p j c = rw (eq-eqb k k refl, eq-eqb p p refl, eq-eqb j j refl)

mapping_inj : {s i t u j v : ℕ} → mapping s i t ≡ mapping u j v → t ≡ v
mapping_inj e = cc

clause_inj : {r p i s q j : ℕ} {c d : List ℕ} → clause r p i c ≡ clause s q j d → c ≡ d
clause_inj e = cc

pub mapping_mem : (b : Body) (k j t : ℕ) → mapping_of b k j ≡ some t → Mem (mapping k j t) b
unfolding mapping_of
mapping_mem b k j t e = let r = first_mem (target_at k j) b t e in rw (target_at_lem k j t r.0 r.2) at r.1

pub clause_mem : (b : Body) (k p j : ℕ) (c : List ℕ) → clause_of b k p j ≡ some c → Mem (clause k p j c) b
unfolding clause_of
clause_mem b k p j c e = let r = first_mem (code_at k p j) b c e in rw (code_at_lem k p j c r.0 r.2) at r.1

module _ (b : Body) (rises : Rising item_key b) where
  pub mem_mapping : (k j t : ℕ) → Mem (mapping k j t) b → mapping_of b k j ≡ some t
  unfolding mapping_of item_key plain_key number_of
  mem_mapping k j t m =
      mem_first (target_at k j) b (mapping k j t) t m (at_target k j t)
      (λ a u n q. mapping_inj (from_agree item_key 0 b rises (mapping k j u) (mapping k j t) (rw (target_at_lem k j u a q) at n) m refl))

  pub mem_mapped : (k j t : ℕ) → Mem (mapping k j t) b → mapped b k j ≡ t
  unfolding mapped
  mem_mapped k j t m = rw (mem_mapping k j t m)

  pub mem_clause : (k p j : ℕ) (c : List ℕ) → Mem (clause k p j c) b → clause_of b k p j ≡ some c
  unfolding clause_of item_key plain_key number_of
  mem_clause k p j c m =
      mem_first (code_at k p j) b (clause k p j c) c m (at_code k p j c)
      (λ a d n q. clause_inj (from_agree item_key 0 b rises (clause k p j d) (clause k p j c) (rw (code_at_lem k p j d a q) at n) m refl))

-- The numbers of a kind, by the mappings.
number_at_lem : (k j : ℕ) (a : Item) → Mem j (number_at k a) → (t : ℕ) × (a ≡ mapping k j t)
unfolding number_at
number_at_lem k j (mapping s i t) m = go (eqb s k) refl m
  where
    go : (b : Bool) → eqb s k ≡ b → Mem j (cond b (i ∷ []) []) → (u : ℕ) × (mapping s i t ≡ mapping k j u)
    go true e (inl q) = (t, λ x. mapping (eqb-true s k e x) (sym q x) t)
    go true e (inr q) = absurd q
    go false e q = absurd q
number_at_lem k j (clause r p i c) m = absurd m

pub number_mem : (b : Body) (k j : ℕ) → Mem j (numbers_of b k) → (t : ℕ) × Mem (mapping k j t) b
unfolding numbers_of
number_mem b k j m =
    let r = concat_cases (number_at k) j b m in
    let q = number_at_lem k j r.0 r.2 in
    (q.0, rw q.1 at r.1)

at_number : (k j t : ℕ) → Mem j (number_at k (mapping k j t))
unfolding number_at
at_number k j t = rw (eq-eqb k k refl) (inl refl)

pub mem_number : (b : Body) (k j t : ℕ) → Mem (mapping k j t) b → Mem j (numbers_of b k)
unfolding numbers_of
mem_number b k j t m = mem_concat (number_at k) (mapping k j t) j b m (at_number k j t)
