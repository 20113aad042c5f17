-- A term that stands in bytes, by its sign: what its operands are, and where they stand.
use Prim.Native.Nat.{ℕ, zero, suc, ◌+◌, ◌-◌, ◌<◌, ◌≤◌}
use mathlib.Core.Path.{◌≡◌, refl, ap, sym, subst, ◌∙◌}
use mathlib.Core.Bool.{true, ◌&&◌}
use mathlib.Core.List.{List, [], ◌∷◌}
use mathlib.Core.Option.{none, some}
use native.Mathlib.Omega.{arith}
use native.Mathlib.Numerals.{add-one}
use lib.ListN.{length, drop, get_or, get_elem?, drop_of_length-le}
use lib.Seq.{drop-cons}
use lib.Dec.{ltb}
use borrow.Author.Tests.{ltb-true, ltb-false}
use Rattle.format_fields.proofs.Truth.{none_some, some_inj, by_test, and_both}
use Rattle.format_pack.specs.Terms.{Sort, languages, translations, Term, constant, make, variable, bind, bind_sign, signed, Parse, then, number, language_sign, translation_sign, read_sign, read_term, scoped}
use Rattle.format_pack.specs.Pack.{Pack}
use Rattle.reduce_signs.specs.declared.sorts.Binary.{Binary}
use Rattle.reduce_signs.specs.declared.sorts.Binary.TheVariants.{LanguageWithout, LanguageSum, TranslationWithout, TranslationSum, Join}
use Rattle.reduce_signs.specs.declared.sorts.Unary.{Unary}
use Rattle.reduce_signs.specs.declared.sorts.Unary.TheVariants.{Source, Target, Identity}
use Rattle.reduce_signs.specs.Inner.Sorts.{first_sort, second_sort, binary_sign, binary_term, operand_sort, unary_sort, unary_sign, unary_term}
use Rattle.reduce_terms.specs.Inner.Reducing.{Stands}

-- Nothing is read off no bytes.
read_nothing : (n : ℕ) (s : Sort) → read_term n s [] ≡ none
unfolding read_term read_sign
read_nothing zero s = refl
read_nothing (suc n) languages = refl
read_nothing (suc n) translations = refl

-- A term that stands somewhere has a sign there.
pub stands_in : {p : Pack} {s : Sort} {n : ℕ} (term : List ℕ) (at : ℕ) → Stands p s (drop at term) n → at < length term
stands_in {s} {n} term at x =
    by_test (ltb at (length term)) (λ e. ltb-true at (length term) e) (λ e.
    none_some (sym (read_nothing n s) ∙ (ap (read_term n s) (sym (drop_of_length-le term {i = at} (ltb-false at (length term) e))) ∙ x.reads)))

-- The byte at a position, and what is behind it.
pub next_byte : (s : List ℕ) (i c : ℕ) (r : List ℕ) → drop i s ≡ c ∷ r → (i < length s) × (get_or s i 0 ≡ c) × (drop (i + 1) s ≡ r)
next_byte s i c r e =
    by_test (ltb i (length s)) (λ t.
    let h = ltb-true i (length s) t in
    let d : get_or s i 0 ∷ drop (suc i) s ≡ c ∷ r = sym (drop-cons s i 0 h) ∙ e in
    (h, (cc), rw (add-one i) (cc))) (λ t.
    let d : [] ≡ c ∷ r = sym (drop_of_length-le s {i = i} (ltb-false i (length s) t)) ∙ e in
    absurd (omega (arith, ap length d)))

-- A term is read by its sign, with one level fewer for its operands.
at_sign : {p : Pack} {s : Sort} (term : List ℕ) (at n : ℕ) (x : Stands p s (drop at term) n) → 0 < n
    → read_sign (read_term (n - 1)) s (get_or term at 0 ∷ drop (at + 1) term) ≡ some (x.term, x.rest)
unfolding read_term
at_sign {s} term at zero x h = absurd (omega arith)
at_sign {s} term at (suc n) x h =
    let z : suc n - 1 ≡ n = omega arith in
    let d : get_or term at 0 ∷ drop (at + 1) term ≡ drop at term = rw (add-one at) (sym (drop-cons term at 0 (stands_in term at x))) in
    rw z (ap (read_sign (read_term n) s) d ∙ x.reads)

then_some : {A B : Type 0} (o : Parse A) (f : A → List ℕ → Parse B) (r : B × List ℕ) → then o f ≡ some r
    → (a : A) × (q : List ℕ) × (o ≡ some (a, q)) × (f a q ≡ some r)
then_some none f r e = none_some e
then_some (some a) f r e = (a.0, a.1, refl, e)

number_some : (s : List ℕ) (c : ℕ) (q : List ℕ) → number s ≡ some (c, q) → s ≡ c ∷ q
number_some [] c q e = none_some e
number_some (n ∷ s) c q e = ap (λ (z : ℕ × List ℕ). z.0 ∷ z.1) (some_inj e)

-- Two operands, one after the other, as the reader finds them.
record ReadTwo (reads : (s : Sort) → List ℕ → Parse (Term s)) {a b c : Sort} (k : Term a → Term b → Term c) (bytes : List ℕ) (t : Term c) (rest : List ℕ) : Type 0 where
  x : Term a
  y : Term b
  mid : List ℕ
  first : reads a bytes ≡ some (x, mid)
  second : reads b mid ≡ some (y, rest)
  is : t ≡ k x y

module _ (reads : (s : Sort) → List ℕ → Parse (Term s)) where
  read_two : {a b c : Sort} (k : Term a → Term b → Term c) (bytes : List ℕ) (t : Term c) (rest : List ℕ)
      → then (reads a bytes) (λ x r. then (reads b r) λ y u. some (k x y, u)) ≡ some (t, rest) → ReadTwo reads k bytes t rest
  read_two {a} {b} {c} k bytes t rest e =
      let m = then_some (reads a bytes) _ (t, rest) e in
      let n = then_some (reads b m.1) _ (t, rest) m.3 in
      let d : ◌≡◌ {A = Term c × List ℕ} (k m.0 n.0, n.1) (t, rest) = some_inj n.3 in
      record {
        x = m.0;
        y = n.0;
        mid = m.1;
        first = m.2;
        second = n.2 ∙ ap (λ (u : List ℕ). some (n.0, u)) (ap (λ (z : Term c × List ℕ). z.1) d);
        is = sym (ap (λ (z : Term c × List ℕ). z.0) d);
      }

  read_one : {a c : Sort} (k : Term a → Term c) (bytes : List ℕ) (t : Term c) (rest : List ℕ)
      → then (reads a bytes) (λ x u. some (k x, u)) ≡ some (t, rest) → (x : Term a) × (reads a bytes ≡ some (x, rest)) × (t ≡ k x)
  read_one {a} {c} k bytes t rest e =
      let m = then_some (reads a bytes) _ (t, rest) e in
      let d : ◌≡◌ {A = Term c × List ℕ} (k m.0, m.1) (t, rest) = some_inj m.3 in
      (m.0, m.2 ∙ ap (λ (u : List ℕ). some (m.0, u)) (ap (λ (z : Term c × List ℕ). z.1) d), sym (ap (λ (z : Term c × List ℕ). z.0) d))

  read_number : {c : Sort} (k : ℕ → Term c) (bytes : List ℕ) (t : Term c) (rest : List ℕ)
      → then (number bytes) (λ v u. some (k v, u)) ≡ some (t, rest) → (v : ℕ) × (bytes ≡ v ∷ rest) × (t ≡ k v)
  read_number {c} k bytes t rest e =
      let m = then_some (number bytes) _ (t, rest) e in
      let d : ◌≡◌ {A = Term c × List ℕ} (k m.0, m.1) (t, rest) = some_inj m.3 in
      (m.0, number_some bytes m.0 m.1 m.2 ∙ ap (λ (u : List ℕ). m.0 ∷ u) (ap (λ (z : Term c × List ℕ). z.1) d), sym (ap (λ (z : Term c × List ℕ). z.0) d))

  read_let : {a b c : Sort} (k : ℕ → Term a → Term b → Term c) (bytes : List ℕ) (t : Term c) (rest : List ℕ)
      → then (number bytes) (λ v q. then (reads a q) λ x r. then (reads b r) λ y u. some (k v x y, u)) ≡ some (t, rest)
      → (v : ℕ) × (q : List ℕ) × (bytes ≡ v ∷ q) × ReadTwo reads (k v) q t rest
  read_let k bytes t rest e =
      let m = then_some (number bytes) _ (t, rest) e in
      (m.0, m.1, number_some bytes m.0 m.1 m.2, read_two (k m.0) m.1 t rest m.3)

  read_make : (bytes : List ℕ) (t : Term translations) (rest : List ℕ)
      → then (reads languages bytes) (λ x q. then (reads languages q) λ y r. then (number r) λ c u. some (make x y c, u)) ≡ some (t, rest)
      → (c : ℕ) × ReadTwo reads (λ x y. make x y c) bytes t (c ∷ rest)
  read_make bytes t rest e =
      let m = then_some (reads languages bytes) _ (t, rest) e in
      let n = then_some (reads languages m.1) _ (t, rest) m.3 in
      let w = read_number (make m.0 n.0) n.1 t rest n.3 in (
        w.0,
        record {
          x = m.0;
          y = n.0;
          mid = m.1;
          first = m.2;
          second = n.2 ∙ ap (λ (u : List ℕ). some (n.0, u)) w.1;
          is = w.2;
        },
      )

  read_binary : (o : Binary) (bytes : List ℕ) (t : Term (first_sort o)) (rest : List ℕ)
      → read_sign reads (first_sort o) (binary_sign o ∷ bytes) ≡ some (t, rest) → ReadTwo reads (binary_term o) bytes t rest
  unfolding read_sign language_sign translation_sign
  read_binary LanguageWithout bytes t rest e = read_two _ bytes t rest e
  read_binary LanguageSum bytes t rest e = read_two _ bytes t rest e
  read_binary TranslationWithout bytes t rest e = read_two _ bytes t rest e
  read_binary TranslationSum bytes t rest e = read_two _ bytes t rest e
  read_binary Join bytes t rest e = read_two _ bytes t rest e

  read_unary : (o : Unary) (bytes : List ℕ) (t : Term (unary_sort o)) (rest : List ℕ)
      → read_sign reads (unary_sort o) (unary_sign o ∷ bytes) ≡ some (t, rest)
      → (x : Term (operand_sort o)) × (reads (operand_sort o) bytes ≡ some (x, rest)) × (t ≡ unary_term o x)
  unfolding read_sign language_sign translation_sign
  read_unary Source bytes t rest e = read_one _ bytes t rest e
  read_unary Target bytes t rest e = read_one _ bytes t rest e
  read_unary Identity bytes t rest e = read_one _ bytes t rest e

  read_bind : (r s : Sort) (bytes : List ℕ) (t : Term s) (rest : List ℕ)
      → read_sign reads s (bind_sign r s ∷ bytes) ≡ some (t, rest)
      → (v : ℕ) × (q : List ℕ) × (bytes ≡ v ∷ q) × ReadTwo reads (bind r v) q t rest
  unfolding read_sign language_sign translation_sign
  read_bind languages languages bytes t rest e = read_let (bind languages) bytes t rest e
  read_bind translations languages bytes t rest e = read_let (bind translations) bytes t rest e
  read_bind languages translations bytes t rest e = read_let (bind languages) bytes t rest e
  read_bind translations translations bytes t rest e = read_let (bind translations) bytes t rest e

  read_variable : (s : Sort) (bytes : List ℕ) (t : Term s) (rest : List ℕ)
      → read_sign reads s (signed s 0x41 0x51 ∷ bytes) ≡ some (t, rest) → (v : ℕ) × (bytes ≡ v ∷ rest) × (t ≡ variable v)
  unfolding read_sign language_sign translation_sign
  read_variable languages bytes t rest e = read_number variable bytes t rest e
  read_variable translations bytes t rest e = read_number variable bytes t rest e

  read_constant : (bytes : List ℕ) (t : Term languages) (rest : List ℕ)
      → read_sign reads languages (0x40 ∷ bytes) ≡ some (t, rest) → (v : ℕ) × (bytes ≡ v ∷ rest) × (t ≡ constant v)
  unfolding read_sign language_sign
  read_constant bytes t rest e = read_number constant bytes t rest e

  read_making : (bytes : List ℕ) (t : Term translations) (rest : List ℕ)
      → read_sign reads translations (0x50 ∷ bytes) ≡ some (t, rest) → (c : ℕ) × ReadTwo reads (λ x y. make x y c) bytes t (c ∷ rest)
  unfolding read_sign translation_sign
  read_making bytes t rest e = read_make bytes t rest e

-- What a sign is known to be, put in its place.
signed_at : {s : Sort} (reads : (s : Sort) → List ℕ → Parse (Term s)) (b c : ℕ) (bytes : List ℕ) (o : Parse (Term s)) → b ≡ c
    → read_sign reads s (b ∷ bytes) ≡ o → read_sign reads s (c ∷ bytes) ≡ o
signed_at {s} reads b c bytes o e d = ap (λ (x : ℕ). read_sign reads s (x ∷ bytes)) (sym e) ∙ d

-- The operands of an operator on two.
pub record Two (p : Pack) {a b c : Sort} (k : Term a → Term b → Term c) (bytes : List ℕ) (n : ℕ) (t : Term c) (rest : List ℕ) : Type 0 where
  pub first : Stands p a bytes n
  pub second : Stands p b first.rest n
  pub is : t ≡ k first.term second.term
  pub ends : second.rest ≡ rest

two : (p : Pack) {a b c : Sort} (k : Term a → Term b → Term c) (bytes : List ℕ) (n : ℕ) (t : Term c) (rest : List ℕ)
    → ReadTwo (read_term n) k bytes t rest
    → ((x : Term a) (y : Term b) → t ≡ k x y → (scoped (length p.languages) (length p.bodies) x ≡ true) × (scoped (length p.languages) (length p.bodies) y ≡ true))
    → Two p k bytes n t rest
two p k bytes n t rest r h = let s = h r.x r.y r.is in record {
  first = record { term = r.x; rest = r.mid; reads = r.first; in_scope = s.0 };
  second = record { term = r.y; rest = rest; reads = r.second; in_scope = s.1 };
  is = r.is;
  ends = refl;
}

binary_scoped : (l b : ℕ) (o : Binary) (x : Term (first_sort o)) (y : Term (second_sort o)) → scoped l b (binary_term o x y) ≡ (scoped l b x && scoped l b y)
unfolding scoped
binary_scoped l b LanguageWithout x y = refl
binary_scoped l b LanguageSum x y = refl
binary_scoped l b TranslationWithout x y = refl
binary_scoped l b TranslationSum x y = refl
binary_scoped l b Join x y = refl

pub pair_stands : (p : Pack) (o : Binary) (term : List ℕ) (at n : ℕ) (x : Stands p (first_sort o) (drop at term) n) → 0 < n → get_or term at 0 ≡ binary_sign o
    → Two p (binary_term o) (drop (at + 1) term) (n - 1) x.term x.rest
pair_stands p o term at n x h e =
    two p (binary_term o) (drop (at + 1) term) (n - 1) x.term x.rest
    (read_binary (read_term (n - 1)) o (drop (at + 1) term) x.term x.rest
    (signed_at (read_term (n - 1)) _ (binary_sign o) (drop (at + 1) term) _ e (at_sign term at n x h)))
    (λ y z q. and_both (scoped _ _ y) (scoped _ _ z)
    (sym (binary_scoped _ _ o y z) ∙ (ap (scoped (length p.languages) (length p.bodies)) (sym q) ∙ x.in_scope)))

-- The operand of an operator on one.
pub record One (p : Pack) (o : Unary) (bytes : List ℕ) (n : ℕ) (t : Term (unary_sort o)) (rest : List ℕ) : Type 0 where
  pub operand : Stands p (operand_sort o) bytes n
  pub is : t ≡ unary_term o operand.term
  pub ends : operand.rest ≡ rest

unary_scoped : (l b : ℕ) (o : Unary) (x : Term (operand_sort o)) → scoped l b (unary_term o x) ≡ scoped l b x
unfolding scoped
unary_scoped l b Source x = refl
unary_scoped l b Target x = refl
unary_scoped l b Identity x = refl

pub single_stands : (p : Pack) (o : Unary) (term : List ℕ) (at n : ℕ) (x : Stands p (unary_sort o) (drop at term) n) → 0 < n → get_or term at 0 ≡ unary_sign o
    → One p o (drop (at + 1) term) (n - 1) x.term x.rest
single_stands p o term at n x h e =
    let r = read_unary (read_term (n - 1)) o (drop (at + 1) term) x.term x.rest
    (signed_at (read_term (n - 1)) _ (unary_sign o) (drop (at + 1) term) _ e (at_sign term at n x h)) in
    record {
      operand = record {
        term = r.0;
        rest = x.rest;
        reads = r.1;
        in_scope = sym (unary_scoped _ _ o r.0) ∙ (ap (scoped (length p.languages) (length p.bodies)) (sym r.2) ∙ x.in_scope);
      };
      is = r.2;
      ends = refl;
    }

-- A number behind a sign, with the term that it makes.
pub record Numbered (term : List ℕ) (at : ℕ) {c : Sort} (k : ℕ → Term c) (t : Term c) (rest : List ℕ) : Type 0 where
  pub inside : at + 2 ≤ length term
  pub is : t ≡ k (get_or term (at + 1) 0)
  pub next : drop (at + 2) term ≡ rest

numbered : (term : List ℕ) (at : ℕ) {c : Sort} (k : ℕ → Term c) (t : Term c) (rest : List ℕ) (v : ℕ) → drop (at + 1) term ≡ v ∷ rest → t ≡ k v → Numbered term at k t rest
numbered term at k t rest v e d =
    let b = next_byte term (at + 1) v rest e in
    let z : at + 1 + 1 ≡ at + 2 = omega arith in
    record { inside = omega (arith, b.0); is = d ∙ ap k (sym b.1); next = ap (λ (i : ℕ). drop i term) (sym z) ∙ b.2 }

pub variable_stands : (p : Pack) (s : Sort) (term : List ℕ) (at n : ℕ) (x : Stands p s (drop at term) n) → 0 < n → get_or term at 0 ≡ signed s 0x41 0x51
    → Numbered term at variable x.term x.rest × (get_or term (at + 1) 0 < 16)
unfolding scoped
variable_stands p s term at n x h e =
    let r = read_variable (read_term (n - 1)) s (drop (at + 1) term) x.term x.rest
    (signed_at (read_term (n - 1)) _ (signed s 0x41 0x51) (drop (at + 1) term) _ e (at_sign term at n x h)) in
    let m = numbered term at variable x.term x.rest r.0 r.1 r.2 in
    (m, ltb-true (get_or term (at + 1) 0) 16 (ap (scoped (length p.languages) (length p.bodies)) (sym m.is) ∙ x.in_scope))

get_elem_in : {A : Type 0} (l : List A) (i : ℕ) → i < length l → (a : A) × (get_elem? l i ≡ some a)
get_elem_in [] i h = absurd (omega arith)
get_elem_in (a ∷ l) zero h = (a, refl)
get_elem_in (a ∷ l) (suc i) h = get_elem_in l i (omega arith)

pub constant_stands : (p : Pack) (term : List ℕ) (at n : ℕ) (x : Stands p languages (drop at term) n) → 0 < n → get_or term at 0 ≡ 0x40
    → Numbered term at constant x.term x.rest × ((l : _) × (get_elem? p.languages (get_or term (at + 1) 0) ≡ some l))
unfolding scoped
constant_stands p term at n x h e =
    let r = read_constant (read_term (n - 1)) (drop (at + 1) term) x.term x.rest
    (signed_at (read_term (n - 1)) _ 0x40 (drop (at + 1) term) _ e (at_sign term at n x h)) in
    let m = numbered term at constant x.term x.rest r.0 r.1 r.2 in (
      m,
      get_elem_in p.languages (get_or term (at + 1) 0)
          (ltb-true (get_or term (at + 1) 0) (length p.languages) (ap (scoped (length p.languages) (length p.bodies)) (sym m.is) ∙ x.in_scope)),
    )

-- The two terms of a let, behind its number.
pub record Bound (p : Pack) (r s : Sort) (term : List ℕ) (at n : ℕ) (t : Term s) (rest : List ℕ) : Type 0 where
  pub inside : at + 2 ≤ length term
  pub small : get_or term (at + 1) 0 < 16
  pub terms : Two p (bind r (get_or term (at + 1) 0)) (drop (at + 2) term) n t rest

bind_scoped : (l b : ℕ) (r s : Sort) (v : ℕ) (x : Term r) (y : Term s) → scoped l b (bind {s = s} r v x y) ≡ (ltb v 16 && (scoped l b x && scoped l b y))
unfolding scoped
bind_scoped l b r s v x y = refl

pub let_stands : (p : Pack) (r s : Sort) (term : List ℕ) (at n : ℕ) (x : Stands p s (drop at term) n) → 0 < n → get_or term at 0 ≡ bind_sign r s
    → Bound p r s term at (n - 1) x.term x.rest
let_stands p r s term at n x h e =
    let w = read_bind (read_term (n - 1)) r s (drop (at + 1) term) x.term x.rest
    (signed_at (read_term (n - 1)) _ (bind_sign r s) (drop (at + 1) term) _ e (at_sign term at n x h)) in
    let b = next_byte term (at + 1) w.0 w.1 w.2 in
    let z : at + 2 ≡ at + 1 + 1 = omega arith in
    let q : drop (at + 2) term ≡ w.1 = ap (λ (i : ℕ). drop i term) z ∙ b.2 in
    let f : ReadTwo (read_term (n - 1)) (bind r (get_or term (at + 1) 0)) (drop (at + 2) term) x.term x.rest =
    subst (λ (i : ℕ). ReadTwo (read_term (n - 1)) (bind r i) (drop (at + 2) term) x.term x.rest) (sym b.1)
    (subst (λ (u : List ℕ). ReadTwo (read_term (n - 1)) (bind r w.0) u x.term x.rest) (sym q) w.3) in
    let g : (y : Term r) (z : Term s) → x.term ≡ bind r (get_or term (at + 1) 0) y z
    → (ltb (get_or term (at + 1) 0) 16 ≡ true) × ((scoped (length p.languages) (length p.bodies) y && scoped (length p.languages) (length p.bodies) z) ≡ true) =
    λ y z d. and_both (ltb (get_or term (at + 1) 0) 16) (scoped (length p.languages) (length p.bodies) y && scoped (length p.languages) (length p.bodies) z)
    (sym (bind_scoped _ _ r s _ y z) ∙ (ap (scoped (length p.languages) (length p.bodies)) (sym d) ∙ x.in_scope)) in
    record {
      inside = omega (arith, b.0);
      small = ltb-true (get_or term (at + 1) 0) 16 (g f.x f.y f.is).0;
      terms = two p (bind r (get_or term (at + 1) 0)) (drop (at + 2) term) (n - 1) x.term x.rest f (λ y z d.
          and_both (scoped (length p.languages) (length p.bodies) y) (scoped (length p.languages) (length p.bodies) z) (g y z d).1);
    }

-- The two languages and the body of a made translation; its number stands behind them.
pub record Made (p : Pack) (bytes : List ℕ) (n : ℕ) (t : Term translations) (rest : List ℕ) : Type 0 where
  pub number : ℕ
  pub terms : Two p (λ x y. make x y number) bytes n t (number ∷ rest)
  pub body : (b : _) × (get_elem? p.bodies number ≡ some b)

pub make_stands : (p : Pack) (term : List ℕ) (at n : ℕ) (x : Stands p translations (drop at term) n) → 0 < n → get_or term at 0 ≡ 0x50
    → Made p (drop (at + 1) term) (n - 1) x.term x.rest
unfolding scoped
make_stands p term at n x h e =
    let w = read_making (read_term (n - 1)) (drop (at + 1) term) x.term x.rest
    (signed_at (read_term (n - 1)) _ 0x50 (drop (at + 1) term) _ e (at_sign term at n x h)) in
    let g : (y z : Term languages) → x.term ≡ make y z w.0
    → (scoped (length p.languages) (length p.bodies) y ≡ true) × ((scoped (length p.languages) (length p.bodies) z && ltb w.0 (length p.bodies)) ≡ true) =
    λ y z d. and_both (scoped (length p.languages) (length p.bodies) y) (scoped (length p.languages) (length p.bodies) z && ltb w.0 (length p.bodies))
    (ap (scoped (length p.languages) (length p.bodies)) (sym d) ∙ x.in_scope) in
    let k : (y z : Term languages) → x.term ≡ make y z w.0
    → (scoped (length p.languages) (length p.bodies) z ≡ true) × (ltb w.0 (length p.bodies) ≡ true) =
    λ y z d. and_both (scoped (length p.languages) (length p.bodies) z) (ltb w.0 (length p.bodies)) (g y z d).1 in
    record {
      number = w.0;
      terms = two p (λ y z. make y z w.0) (drop (at + 1) term) (n - 1) x.term (w.0 ∷ x.rest) w.1 (λ y z d. ((g y z d).0, (k y z d).0));
      body = get_elem_in p.bodies w.0 (ltb-true w.0 (length p.bodies) (k w.1.x w.1.y w.1.is).1);
    }

-- A term has a sign of its sort.
pub no_sign : {A : Type 0} {p : Pack} (s : Sort) (term : List ℕ) (at n : ℕ) (x : Stands p s (drop at term) n) → 0 < n → (b : ℕ) → b ≡ get_or term at 0
    → read_sign (read_term (n - 1)) s (b ∷ drop (at + 1) term) ≡ none → A
no_sign s term at n x h b e d =
    none_some (sym d ∙ (ap (λ (i : ℕ). read_sign (read_term (n - 1)) s (i ∷ drop (at + 1) term)) e ∙ at_sign term at n x h))

pub positive : (n : ℕ) → (n ≡ 0 → ⊥) → 0 < n
positive zero h = absurd (h refl)
positive (suc n) h = omega arith
