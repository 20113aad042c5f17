-- Counting over the bytes of a code comes to the code's own bytes and its uses.
use Prim.Native.Nat.{ℕ, zero, suc, ◌+◌, ◌/◌, ◌%◌, ◌<◌, ◌≤◌}
use mathlib.Core.Path.{◌≡◌, refl, sym, ap, ◌∙◌}
use mathlib.Core.Logic.{◌⊎◌, inl, inr, ⊎_elim}
use mathlib.Core.List.{List, ◌∷◌, ◌++◌, append_assoc}
use mathlib.Core.Bool.{Bool, true, false, cond, ◌&&◌}
use mathlib.Core.Option.{some}
use native.Mathlib.Omega.{arith}
use lib.ListN.{length, get_or, drop, length-append}
use lib.Seq.{drop-drop, drop_at}
use lib.Dec.{eqb}
use borrow.Author.Tests.{eq-eqb, ne_eqb, eqb-true, eqb-false}
use Rattle.format_fields.proofs.Truth.{by_test, none_some}
use Rattle.format_fields.proofs.Split.{byte_drop}
use Rattle.format_language.specs.Language.{Language}
use Rattle.tree_reader.specs.Code.{Code, node, token, argument, Codes, nil, cons}
use Rattle.tree_reader.specs.Typing.{Uses, kind_at, Typed, TypedAll, typed_node, typed_token, typed_argument, typed_nil, typed_cons}
use Rattle.tree_reader.specs.Syntax.{write, write_all, code}
use Rattle.run_measure.specs.Inner.Sizes.{own, own_all, same_use, uses, uses_all}
use Rattle.run_measure.specs.Inner.Counting.{Tables, times_at, add_sign, entry_of, amount_of, slot_of, by_of, step_of, count_code}
use Rattle.run_measure.proofs.Entries.{Fresh, Room, sign_adds, sign_fresh, sign_lengths}
use Rattle.run_measure.proofs.Counts.{code_turn}

-- The tables with those of a code whose bytes stand at p: its own bytes at `to`, the uses behind.
unfoldable mutual
  pub added : ℕ → ℕ → ℕ → Code → Tables → Tables
  added to first p (node k n t) x = added_all to first (p + 2) t (add_sign x p (to + 0) (first + 0) 1)
  added to first p (token v) x = add_sign x p (to + 0) (first + 0) 2
  added to first p (argument i zero) x = add_sign x p (to + i) (first + 0) 1
  added to first p (argument i (suc j)) x = add_sign x p (to + i) (first + suc j) 1

  pub added_all : ℕ → ℕ → ℕ → Codes → Tables → Tables
  added_all to first p nil x = x
  added_all to first p (cons a t) x = added_all to first (p + length (write code a)) t (added to first p a x)

-- What stands behind a part.
rest_of : (s v r : List ℕ) (q : ℕ) → drop q s ≡ v ++ r → drop (q + length v) s ≡ r
rest_of s v r q h = sym (drop-drop (length v) q s) ∙ (ap (drop (length v)) h ∙ drop_at v r (length v) refl)

-- A sign of a code that is counted.
module _ (s : List ℕ) (e to first : ℕ) where
  sign_turn : (q x y z : ℕ) (t : Tables) → get_or s q 0 ≡ x → get_or s (q + 1) 0 ≡ y → by_of x (get_or s (q + 2) 0) ≡ z → q < e
      → count_code s q e to first t ≡ count_code s (q + step_of x) e to first (add_sign t q (to + slot_of x y) (first + z) (amount_of x))
  sign_turn q x y z t a b c k = rw (← c, ← a, ← b) (code_turn s q e to first t k)

  at_0 : (q x : ℕ) (u : List ℕ) → drop q s ≡ x ∷ u → get_or s q 0 ≡ x
  at_0 q x u h = sym (byte_drop s q 0 q (omega arith)) ∙ ap (λ (l : List ℕ). get_or l 0 0) h

  at_1 : (q x y : ℕ) (u : List ℕ) → drop q s ≡ x ∷ y ∷ u → get_or s (q + 1) 0 ≡ y
  at_1 q x y u h = sym (byte_drop s q 1 (q + 1) refl) ∙ ap (λ (l : List ℕ). get_or l 1 0) h

  at_2 : (q x y z : ℕ) (u : List ℕ) → drop q s ≡ x ∷ y ∷ z ∷ u → get_or s (q + 2) 0 ≡ z
  at_2 q x y z u h = sym (byte_drop s q 2 (q + 2) refl) ∙ ap (λ (l : List ℕ). get_or l 2 0) h

  mutual
    unfolding write added

    pub code_counted : (c : Code) (q : ℕ) (r : List ℕ) (t : Tables) → drop q s ≡ write code c ++ r → q + length (write code c) ≤ e
        → count_code s q e to first t ≡ count_code s (q + length (write code c)) e to first (added to first q c t)
    code_counted (node k p u) q r t h l =
        let d : drop (q + 2) s ≡ write_all code u ++ r = sym (drop-drop 2 q s) ∙ ap (drop 2) h in
        let j : q + 2 + length (write_all code u) ≡ q + length (write code (node k p u)) = omega arith in
        sign_turn q 1 p 0 t (at_0 q 1 (p ∷ write_all code u ++ r) h) (at_1 q 1 p (write_all code u ++ r) h) refl (omega arith)
        ∙ (codes_counted u (q + 2) r (add_sign t q (to + 0) (first + 0) 1) d (omega arith) ∙ rw j)
    code_counted (token v) q r t h l =
        sign_turn q 2 (v / 256) 0 t (at_0 q 2 (v / 256 ∷ v % 256 ∷ r) h) (at_1 q 2 (v / 256) (v % 256 ∷ r) h) refl (omega arith)
    code_counted (argument i zero) q r t h l =
        sign_turn q 3 i 0 t (at_0 q 3 (i ∷ r) h) (at_1 q 3 i r h) refl (omega arith)
    code_counted (argument i (suc j)) q r t h l =
        sign_turn q 4 i (suc j) t (at_0 q 4 (i ∷ suc j ∷ r) h) (at_1 q 4 i (suc j ∷ r) h) (at_2 q 4 i (suc j) r h) (omega arith)

    pub codes_counted : (u : Codes) (q : ℕ) (r : List ℕ) (t : Tables) → drop q s ≡ write_all code u ++ r → q + length (write_all code u) ≤ e
        → count_code s q e to first t ≡ count_code s (q + length (write_all code u)) e to first (added_all to first q u t)
    codes_counted nil q r t h l = let j : q + 0 ≡ q = omega arith in rw j
    codes_counted (cons a u) q r t h l =
        let n = length-append (write code a) (write_all code u) in
        let f : drop q s ≡ write code a ++ (write_all code u ++ r) = h ∙ append_assoc (write code a) (write_all code u) r in
        let d : drop (q + length (write code a)) s ≡ write_all code u ++ r = rest_of s (write code a) (write_all code u ++ r) q f in
        let j : q + length (write code a) + length (write_all code u) ≡ q + length (write_all code (cons a u)) = omega arith in
        code_counted a q (write_all code u ++ r) t f (omega arith)
        ∙ (codes_counted u (q + length (write code a)) r (added to first q a t) d (omega arith) ∙ rw j)

-- How much a code counts for a key at a position.
unfoldable mutual
  pub gain : ℕ → ℕ → ℕ → ℕ → Code → ℕ
  gain to first q x (node k p t) = cond (eqb (to + 0) q && eqb (first + 0) x) 1 0 + gain_all to first q x t
  gain to first q x (token v) = cond (eqb (to + 0) q && eqb (first + 0) x) 2 0
  gain to first q x (argument i zero) = cond (eqb (to + i) q && eqb (first + 0) x) 1 0
  gain to first q x (argument i (suc j)) = cond (eqb (to + i) q && eqb (first + suc j) x) 1 0

  gain_all : ℕ → ℕ → ℕ → ℕ → Codes → ℕ
  gain_all to first q x nil = 0
  gain_all to first q x (cons a t) = gain to first q x a + gain_all to first q x t

-- What is known of tables while codes are counted: their lengths, and that the entries stand before that of position p.
pub record Sound (l : ℕ) (x : Tables) (p : ℕ) : Type 0 where
  pub long : length x.0 ≡ 1024
  pub entries : length x.1 ≡ l
  pub fresh : Fresh x.1 (entry_of p)

pub sound_on : {l : ℕ} {x : Tables} {p : ℕ} → Sound l x p → (o : ℕ) → p ≤ o → Sound l x o
sound_on s o h = record { long = s.long; entries = s.entries; fresh = λ i k. let y = s.fresh i k in omega arith }

-- Every use of a code is by 0, in a clause of number 0, or there is room for entries.
abbrev pub Able : ℕ → ℕ → Uses → Type 0
Able l first r = (l ≡ 7168) ⊎ ((first ≡ 0) × ((i j k : ℕ) → kind_at r i j ≡ some k → j ≡ 0))

module _ (m : Language) (r : Uses) (l to first : ℕ) (able : Able l first r) (inside : (i j k : ℕ) → kind_at r i j ≡ some k → to + i < 1024) (base : to < 1024) where
  sign_on : (x : Tables) (p q key n : ℕ) → p < 4096 → q < 1024 → Sound l x p → (o : ℕ) → p + 2 ≤ o → Sound l (add_sign x p q key n) o
  sign_on x p q key n short here s o h =
      let w = sign_lengths x p q key n in
      record {
        long = w.0 ∙ s.long;
        entries = w.1 ∙ s.entries;
        fresh = sign_fresh x p q key n short here s.long s.fresh o h;
      }

  own_room : (x : Tables) {p : ℕ} → Sound l x p → Room x.1 (first + 0)
  own_room x s = ⊎_elim (λ a. inr (s.entries ∙ a)) (λ a. inl (omega (arith, a.0))) able

  use_room : (x : Tables) {p : ℕ} → Sound l x p → (i j k : ℕ) → kind_at r i j ≡ some k → Room x.1 (first + j)
  use_room x s i j k e = ⊎_elim (λ a. inr (s.entries ∙ a)) (λ a. inl (omega (arith, a.0, a.1 i j k e))) able

  mutual
    unfolding added gain write

    -- The tables after a code are sound, and count what the code counts more.
    pub added_sound : {a : Code} {k : ℕ} → Typed m r a k → (p : ℕ) (x : Tables) → p + length (write code a) ≤ 4096 → Sound l x p
        → Sound l (added to first p a x) (p + length (write code a))
    added_sound (typed_node {t = t} e hs) p x h s =
        let y = added_all_sound hs (p + 2) (add_sign x p (to + 0) (first + 0) 1) (omega arith) (sign_on x p (to + 0) (first + 0) 1 (omega arith) (omega arith) s (p + 2) (omega arith)) in
        sound_on y _ (omega arith)
    added_sound (typed_token e g) p x h s = sign_on x p (to + 0) (first + 0) 2 (omega arith) (omega arith) s _ (omega arith)
    added_sound (typed_argument {i = i} {j = zero} {k = k} e) p x h s = sign_on x p (to + i) (first + 0) 1 (omega arith) (inside i zero k e) s _ (omega arith)
    added_sound (typed_argument {i = i} {j = suc j} {k = k} e) p x h s = sign_on x p (to + i) (first + suc j) 1 (omega arith) (inside i (suc j) k e) s _ (omega arith)

    added_all_sound : {t : Codes} {ks : List ℕ} → TypedAll m r t ks → (p : ℕ) (x : Tables) → p + length (write_all code t) ≤ 4096 → Sound l x p
        → Sound l (added_all to first p t x) (p + length (write_all code t))
    added_all_sound typed_nil p x h s = sound_on s _ (omega arith)
    added_all_sound (typed_cons {a = a} {t = t} g gs) p x h s =
        let n = length-append (write code a) (write_all code t) in
        let y = added_all_sound gs (p + length (write code a)) (added to first p a x) (omega arith) (added_sound g p x (omega arith) s) in
        sound_on y _ (omega arith)

  mutual
    unfolding added gain write

    pub added_times : {a : Code} {k : ℕ} → Typed m r a k → (p : ℕ) (x : Tables) → p + length (write code a) ≤ 4096 → Sound l x p
        → (q key : ℕ) → q < 1024 → times_at (added to first p a x) q key ≡ gain to first q key a + times_at x q key
    added_times (typed_node {t = t} e hs) p x h s q key l =
        let y = sign_on x p (to + 0) (first + 0) 1 (omega arith) (omega arith) s (p + 2) (omega arith) in
        let a = added_all_times hs (p + 2) (add_sign x p (to + 0) (first + 0) 1) (omega arith) y q key l in
        let b = sign_adds x p (to + 0) (first + 0) 1 (omega arith) (omega arith) s.long s.fresh (own_room x s) q key l in
        omega arith
    added_times (typed_token e g) p x h s q key l = sign_adds x p (to + 0) (first + 0) 2 (omega arith) (omega arith) s.long s.fresh (own_room x s) q key l
    added_times (typed_argument {i = i} {j = zero} {k = k} e) p x h s q key l =
        sign_adds x p (to + i) (first + 0) 1 (omega arith) (inside i zero k e) s.long s.fresh (use_room x s i zero k e) q key l
    added_times (typed_argument {i = i} {j = suc j} {k = k} e) p x h s q key l =
        sign_adds x p (to + i) (first + suc j) 1 (omega arith) (inside i (suc j) k e) s.long s.fresh (use_room x s i (suc j) k e) q key l

    added_all_times : {t : Codes} {ks : List ℕ} → TypedAll m r t ks → (p : ℕ) (x : Tables) → p + length (write_all code t) ≤ 4096 → Sound l x p
        → (q key : ℕ) → q < 1024 → times_at (added_all to first p t x) q key ≡ gain_all to first q key t + times_at x q key
    added_all_times typed_nil p x h s q key l = omega arith
    added_all_times (typed_cons {a = a} {t = t} g gs) p x h s q key l =
        let n = length-append (write code a) (write_all code t) in
        let y = added_all_times gs (p + length (write code a)) (added to first p a x) (omega arith) (added_sound g p x (omega arith) s) q key l in
        let z = added_times g p x (omega arith) s q key l in
        omega arith

-- How much a code counts at 0, its own bytes, and at each argument, for a number.
abbrev pub counted : ℕ → ℕ → Code → ℕ
counted zero zero a = own a
counted zero (suc j) a = 0
counted (suc i) j a = uses (suc i) j a

abbrev counted_all : ℕ → ℕ → Codes → ℕ
counted_all zero zero t = own_all t
counted_all zero (suc j) t = 0
counted_all (suc i) j t = uses_all (suc i) j t

-- One sign, where it counts and elsewhere.
here_one : (to a i first b x n : ℕ) → a ≡ i → first + b ≡ x → cond (eqb (to + a) (to + i) && eqb (first + b) x) n 0 ≡ n
here_one to a i first b x n e d = let z : to + a ≡ to + i = omega arith in rw (eq-eqb (to + a) (to + i) z, eq-eqb (first + b) x d)

off_place : (to a q first b x n : ℕ) → (to + a ≡ q → ⊥) → cond (eqb (to + a) q && eqb (first + b) x) n 0 ≡ 0
off_place to a q first b x n h = rw (ne_eqb (to + a) q h)

and_false : (b : Bool) → (b && false) ≡ false
and_false true = refl
and_false false = refl

off_key : (to a q first b x n : ℕ) → (first + b ≡ x → ⊥) → cond (eqb (to + a) q && eqb (first + b) x) n 0 ≡ 0
off_key to a q first b x n h = rw (ne_eqb (first + b) x h, and_false (eqb (to + a) q))

-- A use counts where its argument and number are.
use_one : (to first a b i j : ℕ) → ◌≡◌ {A = ℕ} (cond (eqb (to + suc a) (to + suc i) && eqb (first + b) (first + j)) 1 0) (same_use (suc a) b (suc i) j)
use_one to first a b i j =
    by_test (eqb (suc a) (suc i))
    (λ e.
    let d = eqb-true (suc a) (suc i) e in
    let z : to + suc a ≡ to + suc i = omega arith in
    by_test (eqb b j)
    (λ g. let y = eqb-true b j g in rw (e, g, eq-eqb (to + suc a) (to + suc i) z, eq-eqb (first + b) (first + j) (ap (λ (x : ℕ). first + x) y)))
    (λ g. let y = eqb-false b j g in rw (e, g, eq-eqb (to + suc a) (to + suc i) z, ne_eqb (first + b) (first + j) (λ w. y (omega arith)))))
    (λ e. let d = eqb-false (suc a) (suc i) e in rw (e, ne_eqb (to + suc a) (to + suc i) (λ w. d (omega arith))))

module _ (l : Language) (r : Uses) (to first : ℕ) where
  -- In the clause of the key's number.
  mutual
    unfolding gain own uses

    pub gain_counted : {a : Code} {k : ℕ} → Typed l r a k → (i j : ℕ) → gain to first (to + i) (first + j) a ≡ counted i j a
    gain_counted (typed_node {t = t} e hs) zero zero =
        let a = gain_all_counted hs zero zero in
        let b = here_one to 0 0 first 0 (first + 0) 1 refl refl in omega arith
    gain_counted (typed_node {t = t} e hs) zero (suc j) =
        let a = gain_all_counted hs zero (suc j) in
        let b = off_key to 0 (to + 0) first 0 (first + suc j) 1 (λ z. omega arith) in omega arith
    gain_counted (typed_node {t = t} e hs) (suc i) j =
        let a = gain_all_counted hs (suc i) j in
        let b = off_place to 0 (to + suc i) first 0 (first + j) 1 (λ z. omega arith) in omega arith
    gain_counted (typed_token e g) zero zero = here_one to 0 0 first 0 (first + 0) 2 refl refl
    gain_counted (typed_token e g) zero (suc j) = off_key to 0 (to + 0) first 0 (first + suc j) 2 (λ z. omega arith)
    gain_counted (typed_token e g) (suc i) j = off_place to 0 (to + suc i) first 0 (first + j) 2 (λ z. omega arith)
    gain_counted (typed_argument {i = zero} e) i j = none_some e
    gain_counted (typed_argument {i = suc a} {j = zero} e) zero zero = off_place to (suc a) (to + 0) first 0 (first + 0) 1 (λ z. omega arith)
    gain_counted (typed_argument {i = suc a} {j = zero} e) zero (suc j) = off_place to (suc a) (to + 0) first 0 (first + suc j) 1 (λ z. omega arith)
    gain_counted (typed_argument {i = suc a} {j = zero} e) (suc i) j = use_one to first a zero i j
    gain_counted (typed_argument {i = suc a} {j = suc b} e) zero zero = off_place to (suc a) (to + 0) first (suc b) (first + 0) 1 (λ z. omega arith)
    gain_counted (typed_argument {i = suc a} {j = suc b} e) zero (suc j) = off_place to (suc a) (to + 0) first (suc b) (first + suc j) 1 (λ z. omega arith)
    gain_counted (typed_argument {i = suc a} {j = suc b} e) (suc i) j = use_one to first a (suc b) i j

    gain_all_counted : {t : Codes} {ks : List ℕ} → TypedAll l r t ks → (i j : ℕ) → gain_all to first (to + i) (first + j) t ≡ counted_all i j t
    gain_all_counted typed_nil zero zero = refl
    gain_all_counted typed_nil zero (suc j) = refl
    gain_all_counted typed_nil (suc i) j = refl
    gain_all_counted (typed_cons g gs) zero zero = λ x. gain_counted g zero zero x + gain_all_counted gs zero zero x
    gain_all_counted (typed_cons g gs) zero (suc j) = let a = gain_counted g zero (suc j) in let b = gain_all_counted gs zero (suc j) in omega arith
    gain_all_counted (typed_cons g gs) (suc i) j = λ x. gain_counted g (suc i) j x + gain_all_counted gs (suc i) j x

  -- At another position, or for a key of another number, nothing.
  module _ (q x : ℕ) (out : (i j k : ℕ) → kind_at r i j ≡ some k → (to + i ≡ q → ⊥) ⊎ (first + j ≡ x → ⊥)) (other : (to + 0 ≡ q → ⊥) ⊎ (first + 0 ≡ x → ⊥)) where
    own_none : (n : ℕ) → cond (eqb (to + 0) q && eqb (first + 0) x) n 0 ≡ 0
    own_none n = ⊎_elim (λ h. off_place to 0 q first 0 x n h) (λ h. off_key to 0 q first 0 x n h) other

    use_none : (i j k : ℕ) → kind_at r i j ≡ some k → ◌≡◌ {A = ℕ} (cond (eqb (to + i) q && eqb (first + j) x) 1 0) 0
    use_none i j k e = ⊎_elim (λ h. off_place to i q first j x 1 h) (λ h. off_key to i q first j x 1 h) (out i j k e)

    mutual
      unfolding gain

      pub gain_none : {a : Code} {k : ℕ} → Typed l r a k → gain to first q x a ≡ 0
      gain_none (typed_node e hs) = let a = gain_all_none hs in let b = own_none 1 in omega arith
      gain_none (typed_token e g) = own_none 2
      gain_none (typed_argument {i = i} {j = zero} {k = k} e) = use_none i zero k e
      gain_none (typed_argument {i = i} {j = suc j} {k = k} e) = use_none i (suc j) k e

      gain_all_none : {t : Codes} {ks : List ℕ} → TypedAll l r t ks → gain_all to first q x t ≡ 0
      gain_all_none typed_nil = refl
      gain_all_none (typed_cons g gs) = let a = gain_none g in let b = gain_all_none gs in omega arith
