-- What a table of entries counts, and what one more entry adds.
use Prim.Native.Nat.{ℕ, zero, suc, ◌+◌, ◌-◌, ◌<◌, ◌≤◌}
use mathlib.Core.Path.{◌≡◌, refl, sym, ap, ◌∙◌}
use mathlib.Core.Logic.{◌⊎◌, ⊎_elim}
use mathlib.Core.Bool.{Bool, true, false, cond, ◌&&◌}
use mathlib.Core.List.{List}
use native.Mathlib.Omega.{arith}
use lib.ListN.{length, get_or, set, length-set}
use lib.Seq.{set_out, get_or-set_same, get_or-set_other}
use lib.Dec.{ltb, leb, eqb}
use borrow.Author.Tests.{le-ltb, lt-ltb, lt-leb, eq-eqb, ne_eqb, ltb-true, ltb-false, leb-true, leb-false, eqb-true, eqb-false}
use Rattle.format_fields.proofs.Truth.{by_test}
use Rattle.run_measure.specs.Inner.Counting.{Tables, before, linked, times_at, add_at, add_entry, entry_of, add_sign}

-- The entry before one stands well before it.
before_under : (e next : ℕ) → 3 ≤ e → before e next + 3 ≤ e
before_under e next h =
    by_test (ltb e (next + 3))
    (λ t. rw t (omega arith))
    (λ t. let k = ltb-false e (next + 3) t in rw t (omega arith))

before_is : (e next : ℕ) → next + 3 ≤ e → before e next ≡ next
before_is e next h = cc (le-ltb e (next + 3) h)

-- No entry.
pub linked_none : (fuel : ℕ) (u : List ℕ) (e key : ℕ) → e < 1024 → linked fuel u e key ≡ 0
unfolding linked
linked_none zero u e key h = refl
linked_none (suc fuel) u e key h = cc (lt-ltb e 1024 h)

-- One entry, and those before it.
pub linked_one : (fuel : ℕ) (u : List ℕ) (e key : ℕ) → 1024 ≤ e
    → linked (suc fuel) u e key ≡ cond (eqb (get_or u (e + 1) 0) key) (get_or u (e + 2) 0) 0 + linked fuel u (before e (get_or u e 0)) key
unfolding linked
linked_one fuel u e key h = cc (le-ltb e 1024 h)

-- Only what stands before e matters to entries before e.
linked_kept : (u v : List ℕ) (e key : ℕ) → ((x : ℕ) → 1024 ≤ x → x < e → get_or v x 0 ≡ get_or u x 0)
    → (fuel h : ℕ) → h + 3 ≤ e → linked fuel v h key ≡ linked fuel u h key
unfolding linked
linked_kept u v e key same zero h l = refl
linked_kept u v e key same (suc fuel) h l =
    by_test (ltb h 1024)
    (λ t. linked_none (suc fuel) v h key (ltb-true h 1024 t) ∙ sym (linked_none (suc fuel) u h key (ltb-true h 1024 t)))
    (λ t.
    let k : 1024 ≤ h = ltb-false h 1024 t in
    let b = before_under h (get_or u h 0) (omega arith) in
    let r = linked_kept u v e key same fuel (before h (get_or u h 0)) (omega arith) in
    linked_one fuel v h key k
    ∙ (rw (same h k (omega arith), same (h + 1) (omega arith) (omega arith), same (h + 2) (omega arith) (omega arith), r)
    (sym (linked_one fuel u h key k))))

-- As much fuel as the position says is enough.
pub linked_enough : (f g : ℕ) (u : List ℕ) (h key : ℕ) → h ≤ f → h ≤ g → linked f u h key ≡ linked g u h key
linked_enough zero g u h key x y = linked_none zero u h key (omega arith) ∙ sym (linked_none g u h key (omega arith))
linked_enough (suc f) zero u h key x y = linked_none (suc f) u h key (omega arith) ∙ sym (linked_none zero u h key (omega arith))
linked_enough (suc f) (suc g) u h key x y =
    by_test (ltb h 1024)
    (λ t. linked_none (suc f) u h key (ltb-true h 1024 t) ∙ sym (linked_none (suc g) u h key (ltb-true h 1024 t)))
    (λ t.
    let k : 1024 ≤ h = ltb-false h 1024 t in
    let b = before_under h (get_or u h 0) (omega arith) in
    linked_one f u h key k
    ∙ (ap (λ (z : ℕ). cond (eqb (get_or u (h + 1) 0) key) (get_or u (h + 2) 0) 0 + z) (linked_enough f g u (before h (get_or u h 0)) key (omega arith) (omega arith))
    ∙ sym (linked_one g u h key k)))

-- Every entry stands before e.
abbrev pub Fresh : List ℕ → ℕ → Type 0
Fresh u e = (q : ℕ) → q < 1024 → get_or u q 0 + 3 ≤ e

module _ (u : List ℕ) (e q key n : ℕ) (room : e + 3 ≤ length u) (low : 1024 ≤ e) (here : q < 1024) (fresh : Fresh u e) where
  abbrev more : List ℕ
  more = set (set (set (set u e (get_or u q 0)) (e + 1) key) (e + 2) n) q e

  entry_is : add_entry u e q key n ≡ more
  entry_is = cc (le-ltb (length u) (e + 3) room, lt-leb 1024 q here)

  -- What stands in the table after it.
  more_other : (x : ℕ) → (x ≡ e → ⊥) → (x ≡ e + 1 → ⊥) → (x ≡ e + 2 → ⊥) → (x ≡ q → ⊥) → get_or more x 0 ≡ get_or u x 0
  more_other x a b c d =
      get_or-set_other (set (set (set u e (get_or u q 0)) (e + 1) key) (e + 2) n) q x e 0 d
      ∙ (get_or-set_other (set (set u e (get_or u q 0)) (e + 1) key) (e + 2) x n 0 c
      ∙ (get_or-set_other (set u e (get_or u q 0)) (e + 1) x key 0 b ∙ get_or-set_other u e x (get_or u q 0) 0 a))

  more_head : get_or more q 0 ≡ e
  more_head =
      get_or-set_same (set (set (set u e (get_or u q 0)) (e + 1) key) (e + 2) n) q e 0
      (let a = length-set u e (get_or u q 0) in
      let b = length-set (set u e (get_or u q 0)) (e + 1) key in
      let c = length-set (set (set u e (get_or u q 0)) (e + 1) key) (e + 2) n in omega arith)

  more_next : get_or more e 0 ≡ get_or u q 0
  more_next =
      get_or-set_other (set (set (set u e (get_or u q 0)) (e + 1) key) (e + 2) n) q e e 0 (λ z. omega arith)
      ∙ (get_or-set_other (set (set u e (get_or u q 0)) (e + 1) key) (e + 2) e n 0 (λ z. omega arith)
      ∙ (get_or-set_other (set u e (get_or u q 0)) (e + 1) e key 0 (λ z. omega arith) ∙ get_or-set_same u e (get_or u q 0) 0 (omega arith)))

  more_key : get_or more (e + 1) 0 ≡ key
  more_key =
      get_or-set_other (set (set (set u e (get_or u q 0)) (e + 1) key) (e + 2) n) q (e + 1) e 0 (λ z. omega arith)
      ∙ (get_or-set_other (set (set u e (get_or u q 0)) (e + 1) key) (e + 2) (e + 1) n 0 (λ z. omega arith)
      ∙ get_or-set_same (set u e (get_or u q 0)) (e + 1) key 0 (let a = length-set u e (get_or u q 0) in omega arith))

  more_amount : get_or more (e + 2) 0 ≡ n
  more_amount =
      get_or-set_other (set (set (set u e (get_or u q 0)) (e + 1) key) (e + 2) n) q (e + 2) e 0 (λ z. omega arith)
      ∙ get_or-set_same (set (set u e (get_or u q 0)) (e + 1) key) (e + 2) n 0
      (let a = length-set u e (get_or u q 0) in let b = length-set (set u e (get_or u q 0)) (e + 1) key in omega arith)

  more_kept : (x fuel h : ℕ) → h + 3 ≤ e → linked fuel more h x ≡ linked fuel u h x
  more_kept x fuel h l = linked_kept u more e x (λ i a b. more_other i (λ z. omega arith) (λ z. omega arith) (λ z. omega arith) (λ z. omega arith)) fuel h l

  -- What is linked at a position.
  more_there : (i x : ℕ) → i < 1024 → (q ≡ i → ⊥) → linked (get_or more i 0) more (get_or more i 0) x ≡ linked (get_or u i 0) u (get_or u i 0) x
  more_there i x l ne =
      rw (more_other i (λ z. omega arith) (λ z. omega arith) (λ z. omega arith) (λ z. ne (sym z)))
      (more_kept x (get_or u i 0) (get_or u i 0) (fresh i l))

  more_here : (x : ℕ) → linked (get_or more q 0) more (get_or more q 0) x ≡ cond (eqb key x) n 0 + linked (get_or u q 0) u (get_or u q 0) x
  more_here x =
      let f = fresh q here in
      let s : e ≡ suc (e - 1) = omega arith in
      rw more_head
      (ap (λ (i : ℕ). linked i more e x) s
      ∙ (linked_one (e - 1) more e x low
      ∙ rw (more_key, more_amount, more_next, before_is e (get_or u q 0) f)
      (ap (λ (y : ℕ). cond (eqb key x) n 0 + y)
      (more_kept x (e - 1) (get_or u q 0) f ∙ linked_enough (e - 1) (get_or u q 0) u (get_or u q 0) x (omega arith) (omega arith)))))

  pub entry_adds : (i x : ℕ) → i < 1024
      → linked (get_or (add_entry u e q key n) i 0) (add_entry u e q key n) (get_or (add_entry u e q key n) i 0) x
      ≡ cond (eqb q i && eqb key x) n 0 + linked (get_or u i 0) u (get_or u i 0) x
  entry_adds i x l =
      rw entry_is
      (by_test (eqb q i)
      (λ t. rw t (let d = eqb-true q i t in rw (← d) (more_here x)))
      (λ t. rw t (more_there i x l (eqb-false q i t) ∙ omega arith)))

  pub entry_fresh : (o : ℕ) → e + 3 ≤ o → Fresh (add_entry u e q key n) o
  entry_fresh o l i h =
      rw entry_is
      (by_test (eqb q i)
      (λ t. let d = eqb-true q i t in rw (← d) (let z = more_head in omega arith))
      (λ t.
      let z = more_other i (λ z. omega arith) (λ z. omega arith) (λ z. omega arith) (λ z. eqb-false q i t (sym z)) in
      let y = fresh i h in omega arith))

pub entry_length : (u : List ℕ) (e q key n : ℕ) → length (add_entry u e q key n) ≡ length u
entry_length u e q key n =
    by_test (ltb (length u) (e + 3))
    (λ t. rw t)
    (λ t. rw t (by_test (leb 1024 q)
    (λ r. rw r)
    (λ r. rw r
    (length-set (set (set (set u e (get_or u q 0)) (e + 1) key) (e + 2) n) q e
    ∙ (length-set (set (set u e (get_or u q 0)) (e + 1) key) (e + 2) n
    ∙ (length-set (set u e (get_or u q 0)) (e + 1) key ∙ length-set u e (get_or u q 0)))))))

-- add_at
module _ (counts : List ℕ) (i n : ℕ) where
  pub add_out : length counts ≤ i → counts ≡ add_at counts i n
  add_out h = sym (set_out counts i (get_or counts i 0 + n) h)

  pub add_length : length (add_at counts i n) ≡ length counts
  add_length = length-set counts i (get_or counts i 0 + n)

  add_same : i < length counts → get_or (add_at counts i n) i 0 ≡ get_or counts i 0 + n
  add_same h = get_or-set_same counts i (get_or counts i 0 + n) 0 h

  add_other : (j : ℕ) → (i ≡ j → ⊥) → get_or (add_at counts i n) j 0 ≡ get_or counts j 0
  add_other j h = get_or-set_other counts i j (get_or counts i 0 + n) 0 (λ e. h (sym e))

  pub add_most : (j : ℕ) → get_or (add_at counts i n) j 0 ≤ get_or counts j 0 + n
  add_most j =
      by_test (eqb i j)
      (λ e.
      let d : i ≡ j = eqb-true i j e in
      by_test (leb (length counts) i)
      (λ k. rw (← add_out (leb-true _ _ k)) (omega arith))
      (λ k. rw (← d, add_same (leb-false _ _ k)) (omega arith)))
      (λ e. rw (add_other j (eqb-false i j e)) (omega arith))

  add_adds : (j : ℕ) → j < length counts → get_or (add_at counts i n) j 0 ≡ cond (eqb i j) n 0 + get_or counts j 0
  add_adds j h =
      by_test (eqb i j)
      (λ e. let d = eqb-true i j e in rw e (rw (← d) (add_same (rw d h) ∙ omega arith)))
      (λ e. rw e (add_other j (eqb-false i j e) ∙ omega arith))

-- There is room for an entry, or none is needed.
abbrev pub Room : List ℕ → ℕ → Type 0
Room u key = (key ≡ 0) ⊎ (length u ≡ 7168)

and_true : (b : Bool) → (b && true) ≡ b
and_true true = refl
and_true false = refl

and_false : (b : Bool) → (b && false) ≡ false
and_false true = refl
and_false false = refl

-- A sign adds what it counts, where it counts.
module _ (t : Tables) (p q key n : ℕ) (short : p < 4096) (here : q < 1024) (long : length t.0 ≡ 1024) (fresh : Fresh t.1 (entry_of p)) where
  pub sign_adds : Room t.1 key → (i x : ℕ) → i < 1024
      → times_at (add_sign t p q key n) i x ≡ cond (eqb q i && eqb key x) n 0 + times_at t i x
  unfolding times_at
  sign_adds room i x l =
      by_test (eqb key 0)
      (λ z. rw z (plain (eqb-true key 0 z)))
      (λ z. rw z (other (⊎_elim (λ y. absurd (eqb-false key 0 z y)) (λ y. y) room)))
    where
      plain : key ≡ 0 → cond (eqb 0 x) (get_or (add_at t.0 q n) i 0) 0 + linked (get_or t.1 i 0) t.1 (get_or t.1 i 0) x
          ≡ cond (eqb q i && eqb key x) n 0 + (cond (eqb 0 x) (get_or t.0 i 0) 0 + linked (get_or t.1 i 0) t.1 (get_or t.1 i 0) x)
      plain k =
          by_test (eqb 0 x)
          (λ y.
          let a : eqb key x ≡ true = eq-eqb key x (k ∙ eqb-true 0 x y) in
          let b = add_adds t.0 q n i (omega arith) in
          rw (y, a, and_true (eqb q i)) (omega arith))
          (λ y.
          let a : eqb key x ≡ false = ne_eqb key x (λ d. eqb-false 0 x y (sym k ∙ d)) in
          rw (y, a, and_false (eqb q i)) (omega arith))

      other : length t.1 ≡ 7168
          → cond (eqb 0 x) (get_or t.0 i 0) 0 + linked (get_or (add_entry t.1 (entry_of p) q key n) i 0) (add_entry t.1 (entry_of p) q key n) (get_or (add_entry t.1 (entry_of p) q key n) i 0) x
          ≡ cond (eqb q i && eqb key x) n 0 + (cond (eqb 0 x) (get_or t.0 i 0) 0 + linked (get_or t.1 i 0) t.1 (get_or t.1 i 0) x)
      other y =
          let a = entry_adds t.1 (entry_of p) q key n (omega arith) (omega arith) here fresh i x l in
          rw a (omega arith)

  pub sign_fresh : (o : ℕ) → p + 2 ≤ o → Fresh (add_sign t p q key n).1 (entry_of o)
  sign_fresh o l =
      by_test (eqb key 0)
      (λ z. rw z (λ i h. let y = fresh i h in omega arith))
      (λ z. rw z
      (by_test (ltb (length t.1) (entry_of p + 3))
      (λ r. rw r (λ i h. let y = fresh i h in omega arith))
      (λ r.
      let big : entry_of p + 3 ≤ length t.1 = ltb-false (length t.1) (entry_of p + 3) r in
      entry_fresh t.1 (entry_of p) q key n big (omega arith) here fresh (entry_of o) (omega arith))))

pub sign_lengths : (t : Tables) (p q key n : ℕ) → (length (add_sign t p q key n).0 ≡ length t.0) × (length (add_sign t p q key n).1 ≡ length t.1)
sign_lengths t p q key n =
    by_test (eqb key 0)
    (λ z. rw z (add_length t.0 q n, refl))
    (λ z. rw z (refl, entry_length t.1 (entry_of p) q key n))
