-- Weights: how often the run of a tree by each number is put out. They stand in windows, one behind the other.
use Rattle.std.specs.Prelude.{ℕ, ◌+◌, ◌*◌, ◌<◌, ◌≡◌, cond, List, length, get_or, ltb, eqb}
use Rattle.run_measure.specs.Inner.Sizes.{weighted, capped}
use Rattle.run_measure.specs.Inner.Counting.{Tables, times_at}

-- A weight for each number.
abbrev pub Weights : Type 0
Weights = ℕ → ℕ

-- The weights that stand from `at` on, as many as the width says; other numbers have none.
unfoldable pub window : ℕ → List ℕ → ℕ → Weights
window width weights at j = cond (ltb j width) (get_or weights (at + j) 0) 0

-- The weights of what stands at position q of the source, where the tree that it belongs to has weights w: for each number
-- as often as the codes count it, each as often as its own number is put out.
unfoldable pub weigh_at : Tables → ℕ → ℕ → ℕ → Weights → Weights
weigh_at t top width q w m = cond (ltb m width) (capped top (weighted w (λ j. times_at t q (256 * j + m)))) 0

-- How often a tree is put out, by all numbers together.
unfoldable pub sum_of : ℕ → Weights → ℕ
sum_of top w = capped top (weighted w (λ j. 1))

-- Once by number j, and by no other.
abbrev pub once_by : ℕ → Weights
once_by j i = cond (eqb j i) 1 0

-- What stands before a position stays, and the length.
pub record KeptBelow (old new : List ℕ) (at : ℕ) : Type 0 where
  pub long : length new ≡ length old
  pub same : (i : ℕ) → i < at → get_or new i 0 ≡ get_or old i 0
