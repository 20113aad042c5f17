-- Text put into a buffer, a part behind another.
use Rattle.std.specs.Prelude.{ℕ, ◌+◌, ◌≤◌, ◌≡◌, List, ◌++◌, length, take}

-- The text stands in the buffer from `from` up to `to`, behind what stood before `from`.
pub record Puts (text before after : List ℕ) (from to : ℕ) : Type 0 where
  pub end : to ≡ from + length text
  pub fits : to ≤ length after
  pub long : length after ≡ length before
  pub bytes : take to after ≡ take from before ++ text
