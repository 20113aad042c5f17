-- Lookups in a language, by its members.
use Prim.Native.Nat.{ℕ}
use mathlib.Core.Path.{◌≡◌, refl}
use mathlib.Core.Logic.{◌⊎◌, inl, inr, ⊎_elim}
use mathlib.Core.Bool.{Bool, true, false, cond, ◌&&◌}
use mathlib.Core.Option.{none, some}
use mathlib.Core.List.{List}
use lib.Dec.{eqb}
use borrow.Author.Tests.{eqb-true, eq-eqb}
use Rattle.format_fields.specs.Lists.{same_numbers}
use Rattle.format_fields.specs.Keyed.{union}
use Rattle.format_fields.proofs.Truth.{Mem, none_some, some_inj, false_true, and_both, or_left, or_right, not_both, refuted, any_mem, mem_any, any_false, false_any, first_mem, mem_first, numbers_equal, equal_numbers}
use Rattle.format_fields.proofs.Keyed.{Rising, from_agree, union_cases}
use Rattle.format_language.specs.Language.{Entry, class, production, Language, entry_key, same_range, same_entry, Range, range_at, range_of, arguments_at, arguments_of, result_is, mentions, is_in, class_is_result, clashes}

-- Ranges that are the same are equal.
range_equal : (c d : Range) → same_range c d ≡ true → c ≡ d
unfolding same_range
range_equal c d e =
    let r = and_both (eqb c.low d.low) (eqb c.high d.high && eqb c.step d.step) e in
    let s = and_both (eqb c.high d.high) (eqb c.step d.step) r.1 in
    λ i. record { low = eqb-true c.low d.low r.0 i; high = eqb-true c.high d.high s.0 i; step = eqb-true c.step d.step s.1 i }

equal_range : (c : Range) → same_range c c ≡ true
unfolding same_range
equal_range c = rw (eq-eqb c.low c.low refl, eq-eqb c.high c.high refl, eq-eqb c.step c.step refl)

-- Entries that are the same are equal.
pub same_equal : (a b : Entry) → same_entry a b ≡ true → a ≡ b
unfolding same_entry
same_equal (class k c) (class j d) e =
    let r = and_both (eqb k j) (same_range c d) e in
    λ i. class (eqb-true k j r.0 i) (range_equal c d r.1 i)
same_equal (class k c) (production s q js) e = false_true e
same_equal (production r p ks) (class j d) e = false_true e
same_equal (production r p ks) (production s q js) e =
    let u = and_both (eqb r s) (eqb p q && same_numbers ks js) e in
    let v = and_both (eqb p q) (same_numbers ks js) u.1 in
    λ i. production (eqb-true r s u.0 i) (eqb-true p q v.0 i) (numbers_equal ks js v.1 i)

pub equal_same : (a : Entry) → same_entry a a ≡ true
unfolding same_entry
equal_same (class k c) = rw (eq-eqb k k refl, equal_range c)
equal_same (production r p ks) = rw (eq-eqb r r refl, eq-eqb p p refl, equal_numbers ks)

pub cond_some : {A : Type 0} (t : Bool) (a b : A) → cond t (some a) none ≡ some b → (t ≡ true) × (a ≡ b)
cond_some true a b e = (refl, some_inj e)
cond_some false a b e = none_some e

-- The entry at which a lookup has a value.
range_at_lem : (k : ℕ) (c : Range) (a : Entry) → range_at k a ≡ some c → a ≡ class k c
unfolding range_at
range_at_lem k c (class j d) e = let r = cond_some (eqb j k) d c e in λ i. class (eqb-true j k r.0 i) (r.1 i)
range_at_lem k c (production r p ks) e = none_some e

arguments_at_lem : (k p : ℕ) (ks : List ℕ) (a : Entry) → arguments_at k p a ≡ some ks → a ≡ production k p ks
unfolding arguments_at
arguments_at_lem k p ks (class j c) e = none_some e
arguments_at_lem k p ks (production r q js) e =
    let u = cond_some (eqb r k && eqb q p) js ks e in
    let v = and_both (eqb r k) (eqb q p) u.0 in
    λ i. production (eqb-true r k v.0 i) (eqb-true q p v.1 i) (u.1 i)

at_range : (k : ℕ) (c : Range) → range_at k (class k c) ≡ some c
unfolding range_at
at_range k c = rw (eq-eqb k k refl)

at_arguments : (k p : ℕ) (ks : List ℕ) → arguments_at k p (production k p ks) ≡ some ks
unfolding arguments_at
at_arguments k p ks = rw (eq-eqb k k refl, eq-eqb p p refl)

class_inj : {k j : ℕ} {c d : Range} → class k c ≡ class j d → c ≡ d
class_inj e = cc

production_inj : {r p s q : ℕ} {ks js : List ℕ} → production r p ks ≡ production s q js → ks ≡ js
production_inj e = cc

pub range_mem : (l : Language) (k : ℕ) (c : Range) → range_of l k ≡ some c → Mem (class k c) l
unfolding range_of
range_mem l k c e = let r = first_mem (range_at k) l c e in rw (range_at_lem k c r.0 r.2) at r.1

pub arguments_mem : (l : Language) (k p : ℕ) (ks : List ℕ) → arguments_of l k p ≡ some ks → Mem (production k p ks) l
unfolding arguments_of
arguments_mem l k p ks e = let r = first_mem (arguments_at k p) l ks e in rw (arguments_at_lem k p ks r.0 r.2) at r.1

module _ (l : Language) (rises : Rising entry_key l) where
  pub mem_range : (k : ℕ) (c : Range) → Mem (class k c) l → range_of l k ≡ some c
  unfolding range_of entry_key
  mem_range k c m =
      mem_first (range_at k) l (class k c) c m (at_range k c)
      (λ e d n q.
      let z = range_at_lem k d e q in
      class_inj (from_agree entry_key 0 l rises (class k d) (class k c) (rw z at n) m refl))

  pub mem_arguments : (k p : ℕ) (ks : List ℕ) → Mem (production k p ks) l → arguments_of l k p ≡ some ks
  unfolding arguments_of entry_key
  mem_arguments k p ks m =
      mem_first (arguments_at k p) l (production k p ks) ks m (at_arguments k p ks)
      (λ e js n q.
      let z = arguments_at_lem k p js e q in
      production_inj (from_agree entry_key 0 l rises (production k p js) (production k p ks) (rw z at n) m refl))

-- The kinds in a language.
pub in_mem : (l : Language) (k : ℕ) → is_in l k ≡ true → (a : Entry) × Mem a l × (mentions k a ≡ true)
unfolding is_in
in_mem l k e = any_mem (mentions k) l e

pub mem_in : (l : Language) (k : ℕ) (a : Entry) → Mem a l → mentions k a ≡ true → is_in l k ≡ true
unfolding is_in
mem_in l k a m e = mem_any (mentions k) l a m e

pub class_in : (l : Language) (k : ℕ) (c : Range) → Mem (class k c) l → is_in l k ≡ true
unfolding mentions
class_in l k c m = mem_in l k (class k c) m (eq-eqb k k refl)

pub result_in : (l : Language) (k p : ℕ) (ks : List ℕ) → Mem (production k p ks) l → is_in l k ≡ true
unfolding mentions
result_in l k p ks m = mem_in l k (production k p ks) m (or_left (eqb k k) _ (eq-eqb k k refl))

pub argument_in : (l : Language) (k p : ℕ) (ks : List ℕ) → Mem (production k p ks) l → (j : ℕ) → Mem j ks → is_in l j ≡ true
unfolding mentions
argument_in l k p ks m j n =
    mem_in l j (production k p ks) m (or_right (eqb k j) _ (mem_any (λ a. eqb a j) ks j n (eq-eqb j j refl)))

-- A larger list has more kinds in it.
pub in_larger : (l m : Language) → ((a : Entry) → Mem a l → Mem a m) → (k : ℕ) → is_in l k ≡ true → is_in m k ≡ true
in_larger l m h k e = let r = in_mem l k e in mem_in m k r.0 (h r.0 r.1) r.2

pub in_union : (l m : Language) (k : ℕ) → is_in (union entry_key l m) k ≡ true → (is_in l k ≡ true) ⊎ (is_in m k ≡ true)
in_union l m k e =
    let r = in_mem (union entry_key l m) k e in
    ⊎_elim (λ q. inl (mem_in l k r.0 q r.2)) (λ q. inr (mem_in m k r.0 q r.2)) (union_cases entry_key r.0 l m r.1)

-- A class is no result: what `clashes` says, by members.
abbrev pub NoClash : Language → Language → Type 0
NoClash l m = (k : ℕ) (c : Range) (p : ℕ) (ks : List ℕ) → Mem (class k c) l → Mem (production k p ks) m → ⊥

pub clashes_none : (l m : Language) → clashes l m ≡ false → NoClash l m
unfolding clashes class_is_result result_is
clashes_none l m e k c p ks n q =
    not_both (mem_any (result_is k) m (production k p ks) q (eq-eqb k k refl)) (any_false (class_is_result m) l e (class k c) n)

class_result : (l m : Language) → NoClash l m → (a : Entry) → Mem a l → class_is_result m a ≡ false
unfolding class_is_result result_is
class_result l m h (production r p ks) n = refl
class_result l m h (class k c) n = false_any (result_is k) m (λ e q. go e q)
  where
    go : (e : Entry) → Mem e m → result_is k e ≡ false
    go (class j d) q = refl
    go (production r p ks) q =
        refuted (eqb r k) (λ z. h k c p ks n (rw (eqb-true r k z) at q))

pub none_clashes : (l m : Language) → NoClash l m → clashes l m ≡ false
unfolding clashes
none_clashes l m h = false_any (class_is_result m) l (λ a n. class_result l m h a n)
