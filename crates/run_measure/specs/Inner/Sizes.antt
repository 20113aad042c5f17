-- How long the result of a run is, and what it costs: by what each clause's code counts itself, and how often it uses each
-- argument by each number.
use Rattle.std.specs.Prelude.{ℕ, zero, suc, ◌+◌, ◌*◌, min, cond, ◌&&◌, length, eqb}
use Rattle.tree_reader.specs.Code.{Code, node, token, argument, Codes, nil, cons}
use Rattle.tree_reader.specs.Syntax.{write, tree}
use Rattle.format_translation.specs.Running.{Clauses}

-- How many codes there are.
unfoldable pub many : Codes → ℕ
many nil = 0
many (cons a t) = suc (many t)

-- The length of a code in tree syntax.
abbrev pub size : Code → ℕ
size a = length (write tree a)

-- The bytes that a code writes itself in tree syntax: 1 for each name, 2 for each token.
unfoldable mutual
  pub own : Code → ℕ
  own (node k p t) = suc (own_all t)
  own (token v) = 2
  own (argument i j) = 0

  pub own_all : Codes → ℕ
  own_all nil = 0
  own_all (cons a t) = own a + own_all t

-- 1 where use (a, b) is use (i, j), else 0.
abbrev pub same_use : ℕ → ℕ → ℕ → ℕ → ℕ
same_use a b i j = cond (eqb a i && eqb b j) 1 0

-- How often a code uses argument i, counted from 1, by number j.
unfoldable mutual
  pub uses : ℕ → ℕ → Code → ℕ
  uses i j (node k p t) = uses_all i j t
  uses i j (token v) = 0
  uses i j (argument a b) = same_use a b i j

  pub uses_all : ℕ → ℕ → Codes → ℕ
  uses_all i j nil = 0
  uses_all i j (cons a t) = uses i j a + uses_all i j t

-- The sum of h over the numbers below n.
unfoldable pub sum_to : ℕ → (ℕ → ℕ) → ℕ
sum_to zero h = 0
sum_to (suc n) h = h 0 + sum_to n (λ i. h (suc i))

-- There are 256 numbers.
abbrev pub numbers : ℕ
numbers = 256

-- A weighted sum over the numbers.
unfoldable pub weighted : (ℕ → ℕ) → (ℕ → ℕ) → ℕ
weighted w h = sum_to numbers (λ j. w j * h j)

-- What a run by number j comes to, where a clause's code c counts e c itself and a token z: lengths with own bytes and 2,
-- cost with 1 and 0. Each operand counts by each number as often as the code uses it so.
unfoldable mutual
  pub amount : (Code → ℕ) → ℕ → Clauses → ℕ → Code → ℕ
  amount e z f j (node k p t) = e (f k p j) + amount_all e z f (λ i by. uses (suc i) by (f k p j)) t
  amount e z f j (token v) = z
  amount e z f j (argument i by) = 0

  -- The operands from place 0 on, each by each number as often as u says.
  pub amount_all : (Code → ℕ) → ℕ → Clauses → (ℕ → ℕ → ℕ) → Codes → ℕ
  amount_all e z f u nil = 0
  amount_all e z f u (cons a t) = weighted (λ by. u 0 by) (λ by. amount e z f by a) + amount_all e z f (λ i by. u (suc i) by) t

-- A length, or the top where it is longer.
abbrev pub capped : ℕ → ℕ → ℕ
capped top n = min n top
