-- What a run costs where no clause uses an argument twice.
use Prim.Native.Nat.{ℕ, zero, suc, ◌+◌, ◌*◌, ◌≤◌}
use mathlib.Core.Path.{◌≡◌, refl, sym, ◌∙◌}
use mathlib.Core.Bool.{cond}
use native.Mathlib.Omega.{arith}
use native.Mathlib.Nat.{mul-add, mul-le-mul}
use lib.Dec.{eqb}
use borrow.Author.Tests.{eq-eqb}
use Rattle.tree_reader.specs.Code.{Code, node, token, argument, Codes, nil, cons}
use Rattle.format_translation.specs.Running.{Clauses}
use Rattle.run_measure.specs.Cost.{over_uses, over_all_uses, count_from_one, cost, cost_operand, productions, productions_all, times_used, UsesOnce, CostBound}

-- What uses come to grows with what each comes to, and is added and multiplied with it.
module _ (h g : ℕ → ℕ → ℕ) where
  mutual
    unfolding over_uses

    uses_more : ((i j : ℕ) → h i j ≤ g i j) → (c : Code) → over_uses h c ≤ over_uses g c
    uses_more l (node k p t) = uses_more_all l t
    uses_more l (token v) = omega arith
    uses_more l (argument i j) = l i j

    uses_more_all : ((i j : ℕ) → h i j ≤ g i j) → (t : Codes) → over_all_uses h t ≤ over_all_uses g t
    uses_more_all l nil = omega arith
    uses_more_all l (cons a t) = let x = uses_more l a in let y = uses_more_all l t in omega arith

  mutual
    unfolding over_uses

    uses_add : (c : Code) → over_uses (λ i j. h i j + g i j) c ≡ over_uses h c + over_uses g c
    uses_add (node k p t) = uses_add_all t
    uses_add (token v) = omega arith
    uses_add (argument i j) = refl

    uses_add_all : (t : Codes) → over_all_uses (λ i j. h i j + g i j) t ≡ over_all_uses h t + over_all_uses g t
    uses_add_all nil = omega arith
    uses_add_all (cons a t) = let x = uses_add a in let y = uses_add_all t in omega arith

mutual
  unfolding over_uses

  uses_times : (n : ℕ) (h : ℕ → ℕ → ℕ) (c : Code) → over_uses (λ i j. n * h i j) c ≡ n * over_uses h c
  uses_times n h (node k p t) = uses_times_all n h t
  uses_times n h (token v) = omega arith
  uses_times n h (argument i j) = refl

  uses_times_all : (n : ℕ) (h : ℕ → ℕ → ℕ) (t : Codes) → over_all_uses (λ i j. n * h i j) t ≡ n * over_all_uses h t
  uses_times_all n h nil = omega arith
  uses_times_all n h (cons a t) =
      (λ x. uses_times n h a x + uses_times_all n h t x) ∙ sym (mul-add n (over_uses h a) (over_all_uses h t))

-- 1 for one argument, and 0 for others.
abbrev one : ℕ → ℕ → ℕ → ℕ
one n i j = cond (eqb i n) 1 0

-- How many productions argument i has, where the first of the operands is argument n.
unfoldable placed : Codes → ℕ → ℕ → ℕ → ℕ
placed nil n i j = 0
placed (cons a t) n i j = productions a * one n i j + placed t (suc n) i j

-- Nothing, for each use.
uses_none : (c : Code) → over_uses (λ i j. 0) c ≡ 0
uses_none c = uses_times 0 (λ i j. 0) c ∙ (let z : 0 * over_uses (λ i j. 0) c ≡ 0 = omega arith in z)

-- All operands together, each used once at most, have no more than all their productions.
placed_most : (c : Code) → ((i : ℕ) → times_used i c ≤ 1) → (t : Codes) (n : ℕ) → over_uses (placed t n) c ≤ productions_all t
unfolding placed productions_all times_used
placed_most c once nil n = let z = uses_none c in omega arith
placed_most c once (cons a t) n =
    let x = uses_add (λ i j. productions a * one n i j) (placed t (suc n)) c in
    let y = uses_times (productions a) (one n) c in
    let m : productions a * over_uses (one n) c ≤ productions a * 1 = mul-le-mul (let z : productions a ≤ productions a = omega arith in z) (once n) in
    let r = placed_most c once t (suc n) in
    omega arith

module _ (f : Clauses) (once : UsesOnce f) where
  -- Arguments counted from 1.
  operand_first : (t : Codes) → ((i by : ℕ) → cost_operand f t i by ≤ placed t 1 (1 + i) by)
      → (i by : ℕ) → count_from_one (λ i by. cost_operand f t i by) i by ≤ placed t 1 i by
  unfolding count_from_one
  operand_first t h zero by = omega arith
  operand_first t h (suc i) by = let z : 1 + i ≡ suc i = omega arith in rw (← z) (h i by)

  mutual
    unfolding cost productions count_from_one placed

    cost_most : (j : ℕ) (t : Code) → cost f j t ≤ productions t
    cost_most j (node k p t) =
        let x = uses_more (count_from_one (λ i by. cost_operand f t i by)) (placed t 1) (λ i by. operand_first t (λ i by. operand_most t 1 i by) i by) (f k p j) in
        let y = placed_most (f k p j) (once k p j) t 1 in
        omega arith
    cost_most j (token v) = omega arith
    cost_most j (argument i by) = omega arith

    operand_most : (t : Codes) (n i by : ℕ) → cost_operand f t i by ≤ placed t n (n + i) by
    operand_most nil n i by = omega arith
    operand_most (cons a t) n zero by =
        let x = cost_most by a in
        let z : n + 0 ≡ n = omega arith in
        let y : one n (n + 0) by ≡ 1 = rw (eq-eqb (n + 0) n z) in
        rw y (omega arith)
    operand_most (cons a t) n (suc i) by =
        let x = operand_most t (suc n) i by in
        let z : n + suc i ≡ suc n + i = omega arith in
        rw z (omega arith)

-- A run costs at most as much as its tree has productions.
pub cost_bound : CostBound
cost_bound f once j t = cost_most f once j t
