-- Forms of codes with their arguments replaced, and of runs.
use Prim.Native.Nat.{ℕ, zero, suc, ◌<◌, ◌≤◌}
use mathlib.Core.Path.{◌≡◌, refl, sym, ap, ◌∙◌}
use mathlib.Core.List.{List}
use mathlib.Core.Option.{some}
use native.Mathlib.Omega.{arith}
use lib.ListN.{length}
use lib.Dec.{eqb}
use lib.IntN.{ℤ, pos, ◌+ℤ◌, ◌*ℤ◌, zero-*ℤ, *ℤ-one, *ℤ_comm, +ℤ_idl, +ℤ_idr, +ℤ_assoc}
use borrow.Author.Tests.{eq-eqb, ne_eqb, eqb-true, eqb-false}
use Rattle.format_fields.proofs.Truth.{by_test}
use Rattle.format_language.specs.Language.{Language, arguments_of}
use Rattle.tree_reader.specs.Code.{Code, node, token, argument, Codes, nil, cons}
use Rattle.tree_reader.specs.Typing.{Uses, Typed, TypedAll, typed_node, typed_token, typed_argument, typed_nil, typed_cons}
use Rattle.format_translation.specs.Running.{Clauses, Replacing, from_one, substitute, substitute_all, run, run_operand}
use Rattle.format_translation.proofs.Running.{ByZero, ByZeroAll}
use Rattle.score_tree.specs.Linear.{Loads, constant, used, form, form_all}
use Rattle.score_tree.proofs.Ring.{exchange, times_sum, sum_times, times_times}

-- The code at a place, counted from 0; past the end a fixed token, which scores 0.
unfoldable nth : Codes → ℕ → Code
nth nil i = token 0
nth (cons a t) zero = a
nth (cons a t) (suc i) = nth t i

-- The sum of factors times the operands' constants. It goes by the factors, whatever they are of.
module _ (w : Loads) where
  same_factors : (g h : ℕ → ℤ) → ((i : ℕ) → g i ≡ h i) → (t : Codes) → form_all w g t 0 ≡ form_all w h t 0
  unfolding form_all
  same_factors g h e nil = refl
  same_factors g h e (cons a t) = λ i. e 0 i *ℤ form w a 0 +ℤ same_factors (λ j. g (suc j)) (λ j. h (suc j)) (λ j. e (suc j)) t i

  no_factors : (t : Codes) → form_all w (λ i. pos 0) t 0 ≡ pos 0
  unfolding form_all
  no_factors nil = refl
  no_factors (cons a t) = ap (λ (z : ℤ). z +ℤ form_all w (λ i. pos 0) t 0) (zero-*ℤ (form w a 0)) ∙ (+ℤ_idl _ ∙ no_factors t)

  add_factors : (g h : ℕ → ℤ) (t : Codes) → form_all w (λ i. g i +ℤ h i) t 0 ≡ form_all w g t 0 +ℤ form_all w h t 0
  unfolding form_all
  add_factors g h nil = refl
  add_factors g h (cons a t) =
      (λ i. sum_times (g 0) (h 0) (form w a 0) i +ℤ add_factors (λ j. g (suc j)) (λ j. h (suc j)) t i)
      ∙ exchange (g 0 *ℤ form w a 0) (h 0 *ℤ form w a 0) (form_all w (λ j. g (suc j)) t 0) (form_all w (λ j. h (suc j)) t 0)

  scale_factors : (z : ℤ) (g : ℕ → ℤ) (t : Codes) → form_all w (λ i. z *ℤ g i) t 0 ≡ z *ℤ form_all w g t 0
  unfolding form_all
  scale_factors z g nil = sym (*ℤ_comm z (pos 0) ∙ zero-*ℤ z)
  scale_factors z g (cons a t) =
      (λ i. times_times z (g 0) (form w a 0) i +ℤ scale_factors z (λ j. g (suc j)) t i)
      ∙ sym (times_sum z (g 0 *ℤ form w a 0) (form_all w (λ j. g (suc j)) t 0))

  -- The factor 1 at the place of an argument picks the operand.
  pick : (n : ℕ) (t : Codes) → form w (nth t n) 0 ≡ form_all w (λ i. used (suc n) (suc i)) t 0
  unfolding form form_all nth used constant lib.IntN.one
  pick n nil = refl
  pick zero (cons a t) =
      let rest : form_all w (λ i. used 1 (suc (suc i))) t 0 ≡ pos 0 = same_factors (λ i. used 1 (suc (suc i))) (λ i. pos 0) (λ i. rw (ne_eqb 1 (suc (suc i)) (omega arith)) refl) t ∙ no_factors t in
      sym ((λ i. *ℤ_comm (pos 1) (form w a 0) i +ℤ rest i) ∙ (+ℤ_idr _ ∙ *ℤ-one (form w a 0)))
  pick (suc n) (cons a t) =
      let first : used (suc (suc n)) 1 *ℤ form w a 0 ≡ pos 0 = ap (λ (z : ℤ). z *ℤ form w a 0) (off n) ∙ zero-*ℤ (form w a 0) in
      let rest : form_all w (λ i. used (suc (suc n)) (suc (suc i))) t 0 ≡ form_all w (λ i. used (suc n) (suc i)) t 0 =
      same_factors (λ i. used (suc (suc n)) (suc (suc i))) (λ i. used (suc n) (suc i)) (λ i. shift n i) t in
      pick n t ∙ sym ((λ i. first i +ℤ rest i) ∙ +ℤ_idl _)
    where
      off : (n : ℕ) → used (suc (suc n)) 1 ≡ pos 0
      off n = rw (ne_eqb (suc (suc n)) 1 (omega arith)) refl

      shift : (n i : ℕ) → used (suc (suc n)) (suc (suc i)) ≡ used (suc n) (suc i)
      shift n i = by_test (eqb (suc n) (suc i))
          (λ q. let e = eqb-true (suc n) (suc i) q in rw (q, eq-eqb (suc (suc n)) (suc (suc i)) (omega arith)) refl)
          (λ q. let e = eqb-false (suc n) (suc i) q in rw (q, ne_eqb (suc (suc n)) (suc (suc i)) (λ z. e (omega arith))) refl)

  -- The score of a code, by number 0 only, with its uses replaced: its constant, and each factor times the score of what
  -- replaces that argument.
  module _ (s : Codes) (r : Replacing) (same : (i : ℕ) → r i 0 ≡ nth s i) where
    mutual
      unfolding form form_all substitute from_one constant used

      form_substitute : (c : Code) → ByZero c → form w (substitute (from_one r) c) 0 ≡ form w c 0 +ℤ form_all w (λ i. form w c (suc i)) s 0
      form_substitute (token v) h = sym (ap (λ (z : ℤ). pos v +ℤ z) (no_factors s) ∙ +ℤ_idr (pos v))
      form_substitute (argument zero j) h = sym (ap (λ (z : ℤ). pos 0 +ℤ z) (same_factors (λ i. used 0 (suc i)) (λ i. pos 0) (λ i. rw (ne_eqb 0 (suc i) (omega arith)) refl) s ∙ no_factors s))
      form_substitute (argument (suc n) j) h = ap (λ (x : ℕ). form w (r n x) 0) h ∙ (ap (λ (x : Code). form w x 0) (same n) ∙ (pick n s ∙ sym (+ℤ_idl _)))
      form_substitute (node k p t) h =
          ap (λ (z : ℤ). w k p 0 +ℤ z) (form_all_substitute (λ i. w k p (suc i)) t h)
          ∙ (sym (+ℤ_assoc (w k p 0) (form_all w (λ i. w k p (suc i)) t 0) (form_all w (λ j. form_all w (λ i. w k p (suc i)) t (suc j)) s 0))
          ∙ ap (λ (z : ℤ). (w k p 0 +ℤ form_all w (λ i. w k p (suc i)) t 0) +ℤ z)
          (same_factors (λ j. form_all w (λ i. w k p (suc i)) t (suc j)) (λ j. pos 0 +ℤ form_all w (λ i. w k p (suc i)) t (suc j)) (λ j. sym (+ℤ_idl _)) s))

      form_all_substitute : (g : ℕ → ℤ) (t : Codes) → ByZeroAll t → form_all w g (substitute_all (from_one r) t) 0 ≡ form_all w g t 0 +ℤ form_all w (λ j. form_all w g t (suc j)) s 0
      form_all_substitute g nil h = sym (ap (λ (z : ℤ). pos 0 +ℤ z) (no_factors s))
      form_all_substitute g (cons a t) h =
          (λ i. (ap (λ (z : ℤ). g 0 *ℤ z) (form_substitute a h.0) ∙ times_sum (g 0) (form w a 0) (form_all w (λ j. form w a (suc j)) s 0)) i +ℤ form_all_substitute (λ j. g (suc j)) t h.1 i)
          ∙ (exchange (g 0 *ℤ form w a 0) (g 0 *ℤ form_all w (λ j. form w a (suc j)) s 0) (form_all w (λ j. g (suc j)) t 0) (form_all w (λ j. form_all w (λ m. g (suc m)) t (suc j)) s 0)
          ∙ ap (λ (z : ℤ). (g 0 *ℤ form w a 0 +ℤ form_all w (λ j. g (suc j)) t 0) +ℤ z)
          (ap (λ (z : ℤ). z +ℤ form_all w (λ j. form_all w (λ m. g (suc m)) t (suc j)) s 0) (sym (scale_factors (g 0) (λ j. form w a (suc j)) s))
          ∙ sym (add_factors (λ j. g 0 *ℤ form w a (suc j)) (λ j. form_all w (λ m. g (suc m)) t (suc j)) s)))

-- Operands, each run by number 0.
unfoldable run_all : Clauses → Codes → Codes
run_all f nil = nil
run_all f (cons a t) = cons (run f 0 a) (run_all f t)

operand_run : (f : Clauses) (t : Codes) (i : ℕ) → run_operand f t i 0 ≡ nth (run_all f t) i
unfolding run_all nth run
operand_run f nil i = refl
operand_run f (cons a t) zero = refl
operand_run f (cons a t) (suc i) = operand_run f t i

-- Loads v that are the forms of the clauses, by number 0 only, give a typed code the score of its run.
module _ (l : Language) (f : Clauses) (v w : Loads)
    (same : (k p : ℕ) (ks : List ℕ) → arguments_of l k p ≡ some ks → (i : ℕ) → i ≤ length ks → v k p i ≡ form w (f k p 0) i)
    (by_zero : (k p : ℕ) (ks : List ℕ) → arguments_of l k p ≡ some ks → ByZero (f k p 0)) where
  mutual
    unfolding form form_all run run_all constant

    pub form_run : {given : Uses} {t : Code} {k : ℕ} → Typed l given t k → form v t 0 ≡ form w (run f 0 t) 0
    form_run (typed_token e h) = refl
    form_run (typed_argument e) = refl
    form_run (typed_node {k = k} {p = p} {t = t} {ks = ks} e h) =
        (λ i. same k p ks e 0 (omega arith) i +ℤ form_all_run h (λ j. v k p (suc j)) (λ j. form w (f k p 0) (suc j)) (λ j g. same k p ks e (suc j) (omega arith)) i)
        ∙ sym (form_substitute w (run_all f t) (λ i by. run_operand f t i by) (λ i. operand_run f t i) (f k p 0) (by_zero k p ks e))

    form_all_run : {given : Uses} {t : Codes} {ks : List ℕ} → TypedAll l given t ks → (g h : ℕ → ℤ) → ((i : ℕ) → i < length ks → g i ≡ h i) → form_all v g t 0 ≡ form_all w h (run_all f t) 0
    form_all_run typed_nil g h e = refl
    form_all_run (typed_cons {ks = ks} y ys) g h e = λ i. e 0 (omega arith) i *ℤ form_run y i +ℤ form_all_run ys (λ j. g (suc j)) (λ j. h (suc j)) (λ j q. e (suc j) (omega arith)) i
