-- Terms in bytes: a term that is written is read back.
use Prim.Native.Nat.{ℕ, zero, suc, ◌≤◌, max}
use mathlib.Core.Path.{◌≡◌, refl, sym, ap, subst, ◌∙◌}
use mathlib.Core.Bool.{Bool, true, false}
use mathlib.Core.List.{List, [], ◌∷◌, ◌++◌, append_assoc}
use mathlib.Core.Option.{none, some}
use native.Mathlib.Omega.{arith}
use lib.Dec.{eqb}
use borrow.Author.Tests.{eqb-true}
use Rattle.format_pack.specs.Terms.{Sort, languages, translations, Term, constant, source_of, target_of, make, join, identity, variable, without, sum, bind, write_term, term_levels, Parse, then, number, read_term, read_sign, language_sign, translation_sign}

-- A term has a level.
pub term_level : {s : Sort} (t : Term s) → 1 ≤ term_levels t
unfolding term_levels
term_level (constant c) = omega arith
term_level (source_of x) = omega arith
term_level (target_of x) = omega arith
term_level (make l m b) = omega arith
term_level (join x y) = omega arith
term_level (identity l) = omega arith
term_level (variable v) = omega arith
term_level (without x l) = omega arith
term_level (sum x y) = omega arith
term_level (bind r v x y) = omega arith

-- Two operands that are read back, one after the other.
two : {a b c : Sort} (n : ℕ) (x : Term a) (y : Term b) (k : Term a → Term b → Term c) (r : List ℕ)
    → read_term n a (write_term x ++ (write_term y ++ r)) ≡ some (x, write_term y ++ r)
    → read_term n b (write_term y ++ r) ≡ some (y, r)
    → then (read_term n a ((write_term x ++ write_term y) ++ r)) (λ u q. then (read_term n b q) λ v w. some (k u v, w)) ≡ some (k x y, r)
two n x y k r e d = rw (append_assoc (write_term x) (write_term y) r, e, d)

-- A term that is written is read back, whatever follows it, where its levels are allowed.
pub read_write : {s : Sort} (t : Term s) (n : ℕ) (r : List ℕ) → term_levels t ≤ n → read_term n s (write_term t ++ r) ≡ some (t, r)
unfolding write_term term_levels read_term read_sign language_sign translation_sign
read_write t zero r h = absurd (omega (arith, term_level t))
read_write (constant c) (suc n) r h = refl
read_write (source_of x) (suc n) r h = rw (read_write x n r (omega arith))
read_write (target_of x) (suc n) r h = rw (read_write x n r (omega arith))
read_write (make l m b) (suc n) r h =
    rw (
      append_assoc (write_term l) (write_term m ++ b ∷ []) r,
      append_assoc (write_term m) (b ∷ []) r,
      read_write l n (write_term m ++ (b ∷ r)) (omega arith),
      read_write m n (b ∷ r) (omega arith),
    )
read_write (join x y) (suc n) r h = two n x y join r (read_write x n _ (omega arith)) (read_write y n r (omega arith))
read_write (identity l) (suc n) r h = rw (read_write l n r (omega arith))
read_write (variable {s = languages} v) (suc n) r h = refl
read_write (variable {s = translations} v) (suc n) r h = refl
read_write (without {s = languages} x y) (suc n) r h = two n x y without r (read_write x n _ (omega arith)) (read_write y n r (omega arith))
read_write (without {s = translations} x y) (suc n) r h = two n x y without r (read_write x n _ (omega arith)) (read_write y n r (omega arith))
read_write (sum {s = languages} x y) (suc n) r h = two n x y sum r (read_write x n _ (omega arith)) (read_write y n r (omega arith))
read_write (sum {s = translations} x y) (suc n) r h = two n x y sum r (read_write x n _ (omega arith)) (read_write y n r (omega arith))
read_write (bind {s = languages} languages v x y) (suc n) r h = two n x y (bind languages v) r (read_write x n _ (omega arith)) (read_write y n r (omega arith))
read_write (bind {s = languages} translations v x y) (suc n) r h = two n x y (bind translations v) r (read_write x n _ (omega arith)) (read_write y n r (omega arith))
read_write (bind {s = translations} languages v x y) (suc n) r h = two n x y (bind languages v) r (read_write x n _ (omega arith)) (read_write y n r (omega arith))
read_write (bind {s = translations} translations v x y) (suc n) r h = two n x y (bind translations v) r (read_write x n _ (omega arith)) (read_write y n r (omega arith))

-- What was read is right: the bytes are the term's and the others, and its levels are allowed.
abbrev Right : {s : Sort} → ℕ → List ℕ → Parse (Term s) → Type 0
Right n bytes none = Unit {0}
Right n bytes (some p) = (bytes ≡ write_term p.0 ++ p.1) × (term_levels p.0 ≤ n)

-- One sign, or the next.
sign : {A : Type 0} (R : A → Type 0) (b c : ℕ) (x y : A) → (b ≡ c → R x) → R y → R (elim (eqb b c) [ true ↦ x | false ↦ y ])
sign {A} R b c x y f g = go (eqb b c) refl
  where
    go : (t : Bool) → eqb b c ≡ t → R (elim t [ true ↦ x | false ↦ y ])
    go true e = f (eqb-true b c e)
    go false e = g

module _ {r : Sort} (n : ℕ) (bytes : List ℕ) where
  -- A number, and what follows.
  after_number_lem : (s : List ℕ) (f : ℕ → List ℕ → Parse (Term r)) → ((v : ℕ) (q : List ℕ) → s ≡ v ∷ q → Right n bytes (f v q))
      → Right n bytes (then (number s) f)
  after_number_lem [] f h = tt
  after_number_lem (v ∷ q) f h = h v q refl

  -- A term, and what follows.
  after_term : {a : Sort} (m : ℕ) (s : List ℕ) (o : Parse (Term a)) (f : Term a → List ℕ → Parse (Term r)) → Right m s o
      → ((x : Term a) (q : List ℕ) → s ≡ write_term x ++ q → term_levels x ≤ m → Right n bytes (f x q)) → Right n bytes (then o f)
  after_term m s none f g h = tt
  after_term m s (some p) f g h = h p.0 p.1 g.0 g.1

-- Two terms, one after the other.
two_bytes_of : (x y s q r : List ℕ) → s ≡ x ++ q → q ≡ y ++ r → s ≡ (x ++ y) ++ r
two_bytes_of x y s q r e d = e ∙ (ap (λ (l : List ℕ). x ++ l) d ∙ sym (append_assoc x y r))

module _ (n : ℕ) (reads : (s : Sort) → List ℕ → Parse (Term s)) (right : (s : Sort) (bytes : List ℕ) → Right n bytes (reads s bytes)) where
  -- Two operands that are right, one after the other.
  right_two : {a b c : Sort} (front : List ℕ) (s : List ℕ) (k : Term a → Term b → Term c)
      → ((x : Term a) (y : Term b) → write_term (k x y) ≡ front ++ (write_term x ++ write_term y))
      → ((x : Term a) (y : Term b) → term_levels (k x y) ≡ suc (max (term_levels x) (term_levels y)))
      → Right (suc n) (front ++ s) (then (reads a s) (λ x q. then (reads b q) λ y u. some (k x y, u)))
  right_two {a} {b} front s k w l =
      after_term (suc n) (front ++ s) n s (reads a s) _ (right a s) (λ x q e h.
      after_term (suc n) (front ++ s) n q (reads b q) _ (right b q) (λ y u d g. (
        rw (w x y, append_assoc front (write_term x ++ write_term y) u) (ap (λ (m : List ℕ). front ++ m) (two_bytes_of (write_term x) (write_term y) s q u e d)),
        rw (l x y) (omega arith),
      )))

  -- One operand that is right.
  right_one : {a c : Sort} (front : List ℕ) (s : List ℕ) (k : Term a → Term c)
      → ((x : Term a) → write_term (k x) ≡ front ++ write_term x) → ((x : Term a) → term_levels (k x) ≡ suc (term_levels x))
      → Right (suc n) (front ++ s) (then (reads a s) λ x u. some (k x, u))
  right_one {a} front s k w l =
      after_term (suc n) (front ++ s) n s (reads a s) _ (right a s) (λ x u e h.
      (rw (w x, append_assoc front (write_term x) u) (ap (λ (m : List ℕ). front ++ m) e), rw (l x) (omega arith)))

  -- Two operands and a number.
  right_make : (s : List ℕ)
      → Right (suc n) (0x50 ∷ s) (then (reads languages s) (λ x q. then (reads languages q) λ y r. then (number r) λ c u. some (make x y c, u)))
  unfolding write_term term_levels
  right_make s =
      after_term (suc n) (0x50 ∷ s) n s (reads languages s) _ (right languages s) (λ x q e h.
      after_term (suc n) (0x50 ∷ s) n q (reads languages q) _ (right languages q) (λ y r d g.
      after_number_lem (suc n) (0x50 ∷ s) r _ (λ c u z. (
        rw (e, d, z, append_assoc (write_term x) (write_term y ++ c ∷ []) u, append_assoc (write_term y) (c ∷ []) u),
        omega arith,
      ))))

  -- A language term, by its sign.
  language_right : (b : ℕ) (s : List ℕ) → Right (suc n) (b ∷ s) (language_sign reads b s)
  unfolding language_sign write_term term_levels
  language_right b s =
      sign (Right (suc n) (b ∷ s)) b 0x40 _ _ (λ e. after_number_lem (suc n) (b ∷ s) s _ (λ c q d. (rw (e, d), omega arith)))
      (sign (Right (suc n) (b ∷ s)) b 0x41 _ _ (λ e. after_number_lem (suc n) (b ∷ s) s _ (λ v q d. (rw (e, d), omega arith)))
      (sign (Right (suc n) (b ∷ s)) b 0x42 _ _ (λ e. rw e (right_two (0x42 ∷ []) s without (λ x y. refl) (λ x y. refl)))
      (sign (Right (suc n) (b ∷ s)) b 0x43 _ _ (λ e. rw e (right_two (0x43 ∷ []) s sum (λ x y. refl) (λ x y. refl)))
      (sign (Right (suc n) (b ∷ s)) b 0x44 _ _ (λ e. rw e (right_one (0x44 ∷ []) s source_of (λ x. refl) (λ x. refl)))
      (sign (Right (suc n) (b ∷ s)) b 0x45 _ _ (λ e. rw e (right_one (0x45 ∷ []) s target_of (λ x. refl) (λ x. refl)))
      (sign (Right (suc n) (b ∷ s)) b 0x46 _ _ (λ e. after_number_lem (suc n) (b ∷ s) s _ (λ v q d.
      rw (e, d) (right_two (0x46 ∷ v ∷ []) q (bind languages v) (λ x y. refl) (λ x y. refl))))
      (sign (Right (suc n) (b ∷ s)) b 0x47 _ _ (λ e. after_number_lem (suc n) (b ∷ s) s _ (λ v q d.
      rw (e, d) (right_two (0x47 ∷ v ∷ []) q (bind translations v) (λ x y. refl) (λ x y. refl)))) tt)))))))

  -- A translation term, by its sign.
  translation_right : (b : ℕ) (s : List ℕ) → Right (suc n) (b ∷ s) (translation_sign reads b s)
  unfolding translation_sign write_term term_levels
  translation_right b s =
      sign (Right (suc n) (b ∷ s)) b 0x50 _ _ (λ e. rw e (right_make s))
      (sign (Right (suc n) (b ∷ s)) b 0x51 _ _ (λ e. after_number_lem (suc n) (b ∷ s) s _ (λ v q d. (rw (e, d), omega arith)))
      (sign (Right (suc n) (b ∷ s)) b 0x52 _ _ (λ e. rw e (right_two (0x52 ∷ []) s without (λ x y. refl) (λ x y. refl)))
      (sign (Right (suc n) (b ∷ s)) b 0x53 _ _ (λ e. rw e (right_two (0x53 ∷ []) s sum (λ x y. refl) (λ x y. refl)))
      (sign (Right (suc n) (b ∷ s)) b 0x54 _ _ (λ e. rw e (right_two (0x54 ∷ []) s join (λ x y. refl) (λ x y. refl)))
      (sign (Right (suc n) (b ∷ s)) b 0x55 _ _ (λ e. rw e (right_one (0x55 ∷ []) s identity (λ x. refl) (λ x. refl)))
      (sign (Right (suc n) (b ∷ s)) b 0x56 _ _ (λ e. after_number_lem (suc n) (b ∷ s) s _ (λ v q d.
      rw (e, d) (right_two (0x56 ∷ v ∷ []) q (bind languages v) (λ x y. refl) (λ x y. refl))))
      (sign (Right (suc n) (b ∷ s)) b 0x57 _ _ (λ e. after_number_lem (suc n) (b ∷ s) s _ (λ v q d.
      rw (e, d) (right_two (0x57 ∷ v ∷ []) q (bind translations v) (λ x y. refl) (λ x y. refl)))) tt)))))))

  -- A term of either sort, one level.
  sign_right : (s : Sort) (bytes : List ℕ) → Right (suc n) bytes (read_sign reads s bytes)
  unfolding read_sign
  sign_right languages [] = tt
  sign_right translations [] = tt
  sign_right languages (b ∷ bytes) = language_right b bytes
  sign_right translations (b ∷ bytes) = translation_right b bytes

-- A term of any levels.
read_right : (n : ℕ) (s : Sort) (bytes : List ℕ) → Right n bytes (read_term n s bytes)
unfolding read_term
read_right zero s bytes = tt
read_right (suc n) s bytes = sign_right n (read_term n) (read_right n) s bytes

-- A term that is read was written: the bytes are the term's and then the others, and its levels are allowed.
pub read_sound : (n : ℕ) {s : Sort} (bytes r : List ℕ) (t : Term s) → read_term n s bytes ≡ some (t, r)
    → (bytes ≡ write_term t ++ r) × (term_levels t ≤ n)
read_sound n {s} bytes r t e = subst (Right {s = s} n bytes) e (read_right n s bytes)
