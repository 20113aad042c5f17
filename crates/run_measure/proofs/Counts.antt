-- Counting by position, one turn at a time, in the terms of the code: a law for each return.
use Prim.Native.Nat.{ℕ, zero, suc, ◌+◌, ◌*◌, ◌-◌, ◌<◌, ◌≤◌}
use mathlib.Core.Path.{◌≡◌, refl, sym, ap, ◌∙◌}
use mathlib.Core.List.{List, [], ◌∷◌}
use mathlib.Core.Bool.{true}
use mathlib.Core.Logic.{inl, inr}
use native.Mathlib.Omega.{arith}
use lib.ListN.{length, get_or}
use lib.Dec.{leb, eqb}
use borrow.Author.Tests.{le-leb, lt-leb, eq-eqb, ne_eqb, leb-true, leb-false}
use Rattle.std.proofs.lemmas.Grind.{common_steps}
use Rattle.format_fields.specs.Lists.{all}
use Rattle.format_fields.specs.Fields.{pair_at}
use Rattle.format_fields.specs.Inner.Places.{field_end, is_whole, places_from, places}
use Rattle.format_fields.proofs.Truth.{Mem, by_test}
use Rattle.format_fields.proofs.Places.{end_past, pass_done, pass_next, every_here}
use Rattle.run_measure.specs.Inner.Counting.{Tables, amount_of, slot_of, by_of, step_of, count_sign, count_in, count_code, count_clause, count_all, Below, wider_at, width_in, width_of}
use Rattle.run_measure.proofs.Entries.{add_most}

-- A sign has more bytes than it counts.
step_most : (sign : ℕ) → (amount_of sign + 1 ≤ step_of sign) × (2 ≤ step_of sign) × (amount_of sign ≤ 2)
step_most sign = (grind (arith, common_steps), grind (arith, common_steps), grind (arith, common_steps))

-- count_code: a turn, by fuel.
module _ (s : List ℕ) (p e own first : ℕ) (t : Tables) where
  abbrev past : ℕ
  past = p + step_of (get_or s p 0)

  in_done : (m : ℕ) → e ≤ p → count_in m s p e own first t ≡ t
  unfolding count_in
  in_done zero h = refl
  in_done (suc m) h = cc (le-leb e p h)

  in_next : (m : ℕ) → p < e → count_in (suc m) s p e own first t ≡ count_in m s past e own first (count_sign s p own first t)
  unfolding count_in
  in_next m h = cc (lt-leb e p h)

-- As much fuel as bytes are left is enough.
enough : (m n : ℕ) (s : List ℕ) (p e own first : ℕ) (t : Tables) → e - p ≤ m → e - p ≤ n → count_in m s p e own first t ≡ count_in n s p e own first t
enough zero n s p e own first t h k = in_done s p e own first t zero (omega arith) ∙ sym (in_done s p e own first t n (omega arith))
enough (suc m) zero s p e own first t h k =
    in_done s p e own first t (suc m) (omega arith) ∙ sym (in_done s p e own first t zero (omega arith))
enough (suc m) (suc n) s p e own first t h k =
    by_test (leb e p)
    (λ d. let f : e ≤ p = leb-true _ _ d in in_done s p e own first t (suc m) f ∙ sym (in_done s p e own first t (suc n) f))
    (λ d.
    let f : p < e = leb-false _ _ d in
    let w = step_most (get_or s p 0) in
    in_next s p e own first t m f
    ∙ (enough m n s (past s p e own first t) e own first (count_sign s p own first t) (omega (arith, w.1)) (omega (arith, w.1))
    ∙ sym (in_next s p e own first t n f)))

module _ (s : List ℕ) (p e own first : ℕ) (t : Tables) where
  pub code_done : e ≤ p → count_code s p e own first t ≡ t
  unfolding count_code
  code_done h = in_done s p e own first t (e - p) h

  pub code_turn : p < e → count_code s p e own first t ≡ count_code s (p + step_of (get_or s p 0)) e own first (count_sign s p own first t)
  unfolding count_code
  code_turn h =
      let w = step_most (get_or s p 0) in
      enough (e - p) (suc (e - (p + 1))) s p e own first t (omega arith) (omega arith)
      ∙ (in_next s p e own first t (e - (p + 1)) h
      ∙ enough (e - (p + 1)) (e - (p + step_of (get_or s p 0))) s (p + step_of (get_or s p 0)) e own first (count_sign s p own first t) (omega (arith, w.1)) (omega arith))

  -- One sign, as the code has it.
  module _ {sign n : ℕ} {more : Tables} (es : sign ≡ get_or s p 0) (en : n ≡ step_of sign) (em : more ≡ count_sign s p own first t) where
    pub code_next : p < e → count_code s (p + n) e own first more ≡ count_code s p e own first t
    code_next h = rw (em, en, es) (sym (code_turn h))

    pub code_below : p < e → Below t.0 p e → Below more.0 (p + n) e
    code_below h w i =
        let a = w i in
        let c = step_most (get_or s p 0) in
        rw (em, en, es)
        (by_test (eqb (first + by_of (get_or s p 0) (get_or s (p + 2) 0)) 0)
        (λ z. rw z (let b = add_most t.0 (own + slot_of (get_or s p 0) (get_or s (p + 1) 0)) (amount_of (get_or s p 0)) i in omega (arith, c.0, c.1, c.2)))
        (λ z. rw z (omega (arith, c.0, c.1))))

-- count_clause
module _ (s index : List ℕ) (p : ℕ) (t : Tables) {place pair : ℕ} (er : pair ≡ pair_at s (p + 3)) (ep : place ≡ get_or index (32 + pair) 0) where
  pub clause_unknown : place ≡ 0 → t ≡ count_clause s index p t
  clause_unknown h = cc (eq-eqb place 0 h)

  module _ (some : place ≡ 0 → ⊥) {e tag : ℕ} (et : tag ≡ get_or s p 0) (ee : e ≡ field_end s p) where
    pub clause_plain : {more : Tables} → tag ≡ 0x23 → more ≡ count_code s (p + 5) e (place + 3) 0 t → more ≡ count_clause s index p t
    clause_plain h em = cc (eq-eqb _ _ h, ne_eqb place 0 some)

    pub clause_numbered : {more : Tables} {number : ℕ} → (tag ≡ 0x23 → ⊥) → tag ≡ 0x29 → number ≡ get_or s (p + 5) 0
        → more ≡ count_code s (p + 6) e (place + 3) (256 * number) t → more ≡ count_clause s index p t
    clause_numbered k h en em = cc (ne_eqb _ _ k, eq-eqb _ _ h, ne_eqb place 0 some)

    pub clause_other : (tag ≡ 0x23 → ⊥) → (tag ≡ 0x29 → ⊥) → t ≡ count_clause s index p t
    clause_other k h = cc (ne_eqb _ _ k, ne_eqb _ _ h, ne_eqb place 0 some)

module _ (s : List ℕ) (p e : ℕ) (counts : List ℕ) (ee : e ≡ field_end s p) (low : (j : ℕ) → get_or counts j 0 ≤ p) where
  pub clause_low : (j : ℕ) → get_or counts j 0 ≤ e
  clause_low j = let h = low j in omega (arith, end_past s p)

  pub clause_below : (q : ℕ) → p + 3 ≤ q → Below counts q e
  clause_below q l j = let h = low j in let k = clause_low j in omega arith

-- count_all
module _ (s index : List ℕ) (p : ℕ) (t x : Tables) (inv : count_all s index (places_from s p) t ≡ x) where
  pub all_done : length s ≤ p → t ≡ x
  unfolding count_all
  all_done h = pass_done (λ (l : List ℕ). count_all s index l t) s p x inv h

  pub all_next : {end : ℕ} {more : Tables} → p < length s → end ≡ field_end s p → more ≡ count_clause s index p t
      → count_all s index (places_from s end) more ≡ x
  unfolding count_all
  all_next {end} here ee em = rw em (pass_next (λ (l : List ℕ). count_all s index l t) s p x inv end here ee)

pub all_fits : (s : List ℕ) (p e : ℕ) → all (is_whole s) (places_from s p) ≡ true → p < length s → e ≡ field_end s p
    → (e ≤ length s) × (all (is_whole s) (places_from s e) ≡ true)
unfolding is_whole
all_fits s p e inv here ee = let w = every_here (is_whole s) s p inv here in rw ee (leb-true _ _ w.0, w.1)

-- A width grows, and is over the number of each mapping.
wider_grows : (s : List ℕ) (p n : ℕ) → (n ≤ wider_at s p n) × (get_or s p 0 ≡ 0x28 → get_or s (p + 4) 0 < wider_at s p n)
wider_grows s p n = (grind (arith, common_steps), λ h. grind (arith, common_steps))

width_grows : (s l : List ℕ) (n : ℕ) → n ≤ width_in s l n
unfolding width_in
width_grows s [] n = omega arith
width_grows s (p ∷ l) n = let a = (wider_grows s p n).0 in let b = width_grows s l (wider_at s p n) in omega arith

width_in_lem : (s l : List ℕ) (n p : ℕ) → Mem p l → get_or s p 0 ≡ 0x28 → get_or s (p + 4) 0 < width_in s l n
unfolding width_in
width_in_lem s (q ∷ l) n p (inl e) is =
    let a = (wider_grows s q n).1 (ap (λ (i : ℕ). get_or s i 0) (sym e) ∙ is) in
    let b = width_grows s l (wider_at s q n) in
    let c : get_or s (p + 4) 0 ≡ get_or s (q + 4) 0 = ap (λ (i : ℕ). get_or s (i + 4) 0) e in
    omega arith
width_in_lem s (q ∷ l) n p (inr m) is = width_in_lem s l (wider_at s q n) p m is
width_in_lem s [] n p x'' is = elim x'' [ ]

pub width_over : (s : List ℕ) (p : ℕ) → Mem p (places s) → get_or s p 0 ≡ 0x28 → get_or s (p + 4) 0 < width_of s
unfolding width_of
width_over s p m is = width_in_lem s (places s) 1 p m is

pub width_some : (s : List ℕ) → 1 ≤ width_of s
unfolding width_of
width_some s = width_grows s (places s) 1

-- width_of
pub width_start : (s : List ℕ) → width_in s (places_from s 0) 1 ≡ width_of s
unfolding width_of
width_start s = refl

module _ (s : List ℕ) (p n x : ℕ) (inv : width_in s (places_from s p) n ≡ x) where
  pub width_done : length s ≤ p → n ≡ x
  unfolding width_in
  width_done h = pass_done (λ (l : List ℕ). width_in s l n) s p x inv h

  pub width_next : {end more : ℕ} → p < length s → end ≡ field_end s p → more ≡ wider_at s p n → width_in s (places_from s end) more ≡ x
  unfolding width_in
  width_next {end} here ee em = rw em (pass_next (λ (l : List ℕ). width_in s l n) s p x inv end here ee)
