-- What is written into a lent output.
use Rattle.std.specs.Prelude.{ℕ, ◌+◌, ◌<◌, ◌≤◌, ◌≡◌, List, ◌++◌, length, take, drop, None, Option, Some}

-- There are bytes from p up to e.
pub record Inside (s : List ℕ) (p e : ℕ) : Type 0 where
  pub rise : p ≤ e
  pub fits : e ≤ length s

-- o with v written from n on.
unfoldable pub spliced : List ℕ → ℕ → List ℕ → List ℕ
spliced o n v = take n o ++ (v ++ drop (n + length v) o)

-- v stands from n up to m in what was the output o.
pub record Written (v o o' : List ℕ) (n m : ℕ) : Type 0 where
  pub end : m ≡ n + length v
  pub fits : m ≤ length o
  pub bytes : o' ≡ spliced o n v

-- The answer r, where v is to be written from n on over the output o, and o' is left.
pub record Stores (v o o' : List ℕ) (n : ℕ) (r : Option ℕ) : Type 0 where
  pub done : (m : ℕ) → r ≡ Some m → Written v o o' n m
  pub full : r ≡ None → length o < n + length v
