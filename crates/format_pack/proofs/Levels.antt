-- A level of a term by the tables of signs is a level of `read_term`, where the term is in scope.
use Prim.Native.Nat.{ℕ, suc, ◌+◌, ◌<◌, ◌≤◌}
use mathlib.Core.Path.{◌≡◌, refl, sym, ap, subst, ◌∙◌}
use mathlib.Core.Bool.{Bool, true, false, cond, ◌&&◌}
use mathlib.Core.List.{List, [], ◌∷◌}
use mathlib.Core.Option.{Option, none, some}
use Rattle.std.specs.Prelude.{Some}
use native.Mathlib.Omega.{arith}
use lib.ListN.{get_or}
use lib.Dec.{ltb, leb, eqb}
use borrow.Author.Tests.{leb-true, ltb-true, eqb-true, eqb-false}
use Rattle.format_fields.specs.Lists.{any}
use Rattle.format_fields.proofs.Truth.{by_test, and_both}
use Rattle.format_pack.specs.Terms.{Sort, languages, translations, Term, constant, source_of, target_of, make, join, identity, variable, without, sum, bind, Parse, then, number, language_sign, translation_sign, read_sign, read_term, scoped}
use Rattle.format_pack.specs.declared.signs.Sort as Signs
use Rattle.format_pack.specs.declared.signs.Sort.TheVariants.{Language, Translation}
use Rattle.format_pack.specs.Inner.Signs.{has_number, sign_index, first_operand, second_operand}
use Rattle.format_pack.proofs.ByPlace.{and_join}
use Rattle.format_pack.specs.Inner.Reading.{next, after_number, in_scope, after, is_sign, after_sign, after_last}

-- What a test lets through.
let_on : (t z : Bool) (r : List ℕ) (g : List ℕ → Option (List ℕ)) → cond (t && z) (g r) none ≡ cond t (next (cond z (some r) none) g) none
let_on true true r g = refl
let_on true false r g = refl
let_on false z r g = refl

none_on : (t : Bool) → ◌≡◌ {A = Option (List ℕ)} none (cond t none none)
none_on true = refl
none_on false = refl

module _ (l b : ℕ) where
  -- A term, or a number, and what is read after it.
  then_term : {a c : Sort} (t : Bool) (o : Parse (Term a)) (f : Term a → List ℕ → Parse (Term c)) (g : List ℕ → Option (List ℕ))
      → ((x : Term a) (r : List ℕ) → in_scope l b (f x r) ≡ cond (t && scoped l b x) (g r) none)
      → in_scope l b (then o f) ≡ cond t (next (in_scope l b o) g) none
  then_term t none f g h = none_on t
  then_term t (some p) f g h = h p.0 p.1 ∙ let_on t (scoped l b p.0) p.1 g

  then_number : {c : Sort} (t : Bool) (m : ℕ) (s : List ℕ) (f : ℕ → List ℕ → Parse (Term c)) (g : List ℕ → Option (List ℕ))
      → ((v : ℕ) (r : List ℕ) → in_scope l b (f v r) ≡ cond (t && ltb v m) (g r) none)
      → in_scope l b (then (number s) f) ≡ cond t (next (after_number m s) g) none
  then_number t m [] f g h = none_on t
  then_number t m (v ∷ s) f g h = h v s ∙ let_on t (ltb v m) s g

  -- A number alone, one operand, and two.
  number_alone : {c : Sort} (m : ℕ) (s : List ℕ) (k : ℕ → Term c) → ((v : ℕ) → scoped l b (k v) ≡ ltb v m)
      → in_scope l b (then (number s) λ v r. some (k v, r)) ≡ next (after_number m s) λ u. some u
  number_alone m s k h = then_number true m s _ _ (λ v r. ap (λ (q : Bool). cond q (some r) none) (h v))

  module _ (reads : (s : Sort) → List ℕ → Parse (Term s)) where
    one : (a : Sort) {c : Sort} (t : Bool) (s : List ℕ) (k : Term a → Term c) → ((x : Term a) → scoped l b (k x) ≡ (t && scoped l b x))
        → in_scope l b (then (reads a s) λ x r. some (k x, r)) ≡ cond t (next (in_scope l b (reads a s)) λ u. some u) none
    one a t s k h = then_term t (reads a s) _ _ (λ x r. ap (λ (q : Bool). cond q (some r) none) (h x))

    two : (a d : Sort) {c : Sort} (t : Bool) (s : List ℕ) (k : Term a → Term d → Term c)
        → ((x : Term a) (y : Term d) → scoped l b (k x y) ≡ ((t && scoped l b x) && scoped l b y))
        → in_scope l b (then (reads a s) λ x r. then (reads d r) λ y u. some (k x y, u))
        ≡ cond t (next (in_scope l b (reads a s)) λ r. next (in_scope l b (reads d r)) λ u. some u) none
    two a d t s k h = then_term t (reads a s) _ _ (λ x r. one d (t && scoped l b x) r (k x) (h x))

    -- A let: a number and two operands.
    let_two : (a d : Sort) {c : Sort} (s : List ℕ) (k : ℕ → Term a → Term d → Term c)
        → ((v : ℕ) (x : Term a) (y : Term d) → scoped l b (k v x y) ≡ (ltb v 16 && (scoped l b x && scoped l b y)))
        → in_scope l b (then (number s) λ v q. then (reads a q) λ x r. then (reads d r) λ y u. some (k v x y, u))
        ≡ next (after_number 16 s) λ q. next (in_scope l b (reads a q)) λ r. next (in_scope l b (reads d r)) λ u. some u
    let_two a d s k h =
        then_number true 16 s _ _ (λ v r. two a d (ltb v 16) r (k v) (λ x y. h v x y ∙ and_join (ltb v 16) (scoped l b x) (scoped l b y)))

    -- Source, target and a body's number.
    make_three : (s : List ℕ)
        → in_scope l b (then (reads languages s) λ x q. then (reads languages q) λ y r. then (number r) λ c u. some (make x y c, u))
        ≡ next (in_scope l b (reads languages s)) λ q. next (in_scope l b (reads languages q)) λ r. next (after_number b r) λ u. some u
    unfolding scoped
    make_three s =
        then_term true (reads languages s) _ _ (λ x q.
        then_term (scoped l b x) (reads languages q) _ _ (λ y r.
        then_number (scoped l b x && scoped l b y) b r _ _ (λ c u.
        ap (λ (z : Bool). cond z (some u) none) (and_join (scoped l b x) (scoped l b y) (ltb c b)))))

-- A number that is none of eight is not among them.
past_four : (x k : ℕ) → k ≤ x → (x ≡ k → ⊥) → (x ≡ k + 1 → ⊥) → (x ≡ k + 2 → ⊥) → (x ≡ k + 3 → ⊥) → k + 4 ≤ x
past_four x k h e0 e1 e2 e3 = omega arith

not_eight : (x k : ℕ) → k ≤ x → x < k + 8 → (x ≡ k → ⊥) → (x ≡ k + 1 → ⊥) → (x ≡ k + 2 → ⊥) → (x ≡ k + 3 → ⊥)
    → (x ≡ k + 4 → ⊥) → (x ≡ k + 5 → ⊥) → (x ≡ k + 6 → ⊥) → (x ≡ k + 7 → ⊥) → ⊥
not_eight x k h g e0 e1 e2 e3 e4 e5 e6 e7 =
    let m = past_four x k h e0 e1 e2 e3 in
    let n = past_four x (k + 4) m e4 (λ e. e5 (e ∙ add k 4 1)) (λ e. e6 (e ∙ add k 4 2)) (λ e. e7 (e ∙ add k 4 3)) in
    far x k n g
  where
    add : (k a b : ℕ) → k + a + b ≡ k + (a + b)
    add k a b = omega arith

    far : (x k : ℕ) → k + 4 + 4 ≤ x → x < k + 8 → ⊥
    far x k n g = omega arith

-- A sign, or any other.
sign_at : (P : ℕ → Type 0) (x k : ℕ) → P k → (eqb x k ≡ false → P x) → P x
sign_at P x k p f = by_test (eqb x k) (λ e. subst P (sym (eqb-true x k e)) p) f

last_some : (o : Option (List ℕ)) → next o (λ u. some u) ≡ o
last_some none = refl
last_some (some u) = refl

module _ (l b n : ℕ) where
  -- What is left after the operands of a sign and the number that ends it.
  abbrev pub rest : ℕ → Option (List ℕ) → Option (List ℕ)
  rest x o = next o λ u. next (after l b n (first_operand x) u) λ v. next (after l b n (second_operand x) v) (after_last b x)

  language_level : (x : ℕ) (s : List ℕ) → in_scope l b (language_sign (read_term n) x s) ≡ rest x (after_sign l Language (x ∷ s))
  unfolding language_sign after after_sign after_last first_operand second_operand sign_index has_number any scoped
  language_level x s =
      let P : ℕ → Type 0 = λ x. in_scope l b (language_sign (read_term n) x s) ≡ rest x (after_sign l Language (x ∷ s)) in
      sign_at P x 0x40 (number_alone l b l s constant (λ v. refl)) λ e0.
      sign_at P x 0x41 (number_alone l b 16 s variable (λ v. refl)) λ e1.
      sign_at P x 0x42 (two l b (read_term n) languages languages true s without (λ x y. refl)) λ e2.
      sign_at P x 0x43 (two l b (read_term n) languages languages true s sum (λ x y. refl)) λ e3.
      sign_at P x 0x44 (one l b (read_term n) translations true s source_of (λ x. refl)) λ e4.
      sign_at P x 0x45 (one l b (read_term n) translations true s target_of (λ x. refl)) λ e5.
      sign_at P x 0x46 (let_two l b (read_term n) languages languages s (bind languages) (λ v x y. refl)) λ e6.
      sign_at P x 0x47 (let_two l b (read_term n) translations languages s (bind translations) (λ v x y. refl)) λ e7.
      let z : is_sign Language x ≡ false =
      by_test (is_sign Language x)
      (λ t.
      let w = and_both (leb 0x40 x) (ltb x 0x48) t in
      absurd (not_eight x 0x40 (leb-true 0x40 x w.0) (ltb-true x 0x48 w.1) (eqb-false x 0x40 e0) (eqb-false x 0x41 e1) (eqb-false x 0x42 e2) (eqb-false x 0x43 e3) (eqb-false x 0x44 e4) (eqb-false x 0x45 e5) (eqb-false x 0x46 e6) (eqb-false x 0x47 e7)))
      (λ t. t) in
      cc

  translation_level : (x : ℕ) (s : List ℕ) → in_scope l b (translation_sign (read_term n) x s) ≡ rest x (after_sign l Translation (x ∷ s))
  unfolding translation_sign after after_sign after_last first_operand second_operand sign_index has_number any scoped
  translation_level x s =
      let P : ℕ → Type 0 = λ x. in_scope l b (translation_sign (read_term n) x s) ≡ rest x (after_sign l Translation (x ∷ s)) in
      sign_at P x 0x50 (make_is s) λ e0.
      sign_at P x 0x51 (number_alone l b 16 s variable (λ v. refl)) λ e1.
      sign_at P x 0x52 (two l b (read_term n) translations languages true s without (λ x y. refl)) λ e2.
      sign_at P x 0x53 (two l b (read_term n) translations translations true s sum (λ x y. refl)) λ e3.
      sign_at P x 0x54 (two l b (read_term n) translations translations true s join (λ x y. refl)) λ e4.
      sign_at P x 0x55 (one l b (read_term n) languages true s identity (λ x. refl)) λ e5.
      sign_at P x 0x56 (let_two l b (read_term n) languages translations s (bind languages) (λ v x y. refl)) λ e6.
      sign_at P x 0x57 (let_two l b (read_term n) translations translations s (bind translations) (λ v x y. refl)) λ e7.
      let z : is_sign Translation x ≡ false =
      by_test (is_sign Translation x)
      (λ t.
      let w = and_both (leb 0x50 x) (ltb x 0x58) t in
      absurd (not_eight x 0x50 (leb-true 0x50 x w.0) (ltb-true x 0x58 w.1) (eqb-false x 0x50 e0) (eqb-false x 0x51 e1) (eqb-false x 0x52 e2) (eqb-false x 0x53 e3) (eqb-false x 0x54 e4) (eqb-false x 0x55 e5) (eqb-false x 0x56 e6) (eqb-false x 0x57 e7)))
      (λ t. t) in
      cc
    where
      make_is : (s : List ℕ) → in_scope l b (then (read_term n languages s) λ x q. then (read_term n languages q) λ y r. then (number r) λ c u. some (make x y c, u))
          ≡ next (in_scope l b (read_term n languages s)) λ q. next (in_scope l b (read_term n languages q)) λ r. after_number b r
      make_is s =
          make_three l b (read_term n) s
          ∙ ap (λ (f : List ℕ → Option (List ℕ)). next (in_scope l b (read_term n languages s)) λ q. next (in_scope l b (read_term n languages q)) f) (λ i r. last_some (after_number b r) i)

  -- One level of either sort.
  abbrev Level : Signs.Sort → List ℕ → Type 0
  Level sort s = after l b (suc n) (Some sort) s ≡ rest (get_or s 0 0) (after_sign l sort s)

  pub level_is : (sort : Signs.Sort) (s : List ℕ) → Level sort s
  unfolding after read_term read_sign after_sign
  level_is Language [] = refl
  level_is Language (x ∷ s) = language_level x s
  level_is Translation [] = refl
  level_is Translation (x ∷ s) = translation_level x s
