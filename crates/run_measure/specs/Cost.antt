-- What a run costs: how many clauses it applies (paper 02, 2026-02), counted as running applies them: each use of an
-- argument anew, an argument that is not used not at all.
use Rattle.std.specs.Prelude.{ℕ, zero, suc, ◌+◌, ◌≤◌, cond, eqb}
use Rattle.tree_reader.specs.Code.{Code, node, token, argument, Codes, nil, cons}
use Rattle.format_translation.specs.Running.{Clauses}

-- What the uses in a code come to, where argument i used by number j comes to h i j.
unfoldable mutual
  pub over_uses : (ℕ → ℕ → ℕ) → Code → ℕ
  over_uses h (node k p t) = over_all_uses h t
  over_uses h (token v) = 0
  over_uses h (argument i j) = h i j

  pub over_all_uses : (ℕ → ℕ → ℕ) → Codes → ℕ
  over_all_uses h nil = 0
  over_all_uses h (cons a t) = over_uses h a + over_all_uses h t

-- Arguments counted from 1, by what stands at each place from 0; number 0 is nothing, which no typed code reaches.
unfoldable pub count_from_one : (ℕ → ℕ → ℕ) → ℕ → ℕ → ℕ
count_from_one h zero j = 0
count_from_one h (suc i) j = h i j

-- The cost of a run by number j. A production applies one clause, its code of number j, and each use in that code costs
-- what the run of that operand by the use's number costs. A token applies none.
unfoldable mutual
  pub cost : Clauses → ℕ → Code → ℕ
  cost f j (node k p t) = 1 + over_uses (count_from_one (λ i by. cost_operand f t i by)) (f k p j)
  cost f j (token v) = 0
  cost f j (argument i by) = 0

  -- The cost of the operand at a place, counted from 0, run by a number; nothing past the end.
  pub cost_operand : Clauses → Codes → ℕ → ℕ → ℕ
  cost_operand f nil i j = 0
  cost_operand f (cons a t) zero j = cost f j a
  cost_operand f (cons a t) (suc i) j = cost_operand f t i j

-- How many productions a tree has.
unfoldable mutual
  pub productions : Code → ℕ
  productions (node k p t) = 1 + productions_all t
  productions (token v) = 0
  productions (argument i j) = 0

  pub productions_all : Codes → ℕ
  productions_all nil = 0
  productions_all (cons a t) = productions a + productions_all t

-- How often a code uses argument i, by all numbers together.
unfoldable pub times_used : ℕ → Code → ℕ
times_used i c = over_uses (λ a j. cond (eqb a i) 1 0) c

-- No clause uses an argument twice.
abbrev pub UsesOnce : Clauses → Type 0
UsesOnce f = (k p j i : ℕ) → times_used i (f k p j) ≤ 1

-- Where no clause uses an argument twice, a run costs at most as much as its tree has productions.
abbrev pub CostBound : Type 0
CostBound = (f : Clauses) → UsesOnce f → (j : ℕ) (t : Code) → cost f j t ≤ productions t
