-- What stands where in bytes, and what was put into an output.
use Rattle.std.specs.Prelude.{ℕ, ◌+◌, ◌≤◌, ◌<◌, ◌≡◌, List, length, take, drop}
use Rattle.format_fields.specs.Inner.Writing.{spliced}

-- The bytes v stand in b from `at` on.
pub record Stands (b : List ℕ) (at : ℕ) (v : List ℕ) : Type 0 where
  pub inside : at + length v ≤ length b
  pub bytes : take (length v) (drop at b) ≡ v

-- The output is as before up to pos, and as long.
pub record Kept (o after : List ℕ) (pos : ℕ) : Type 0 where
  pub long : length after ≡ length o
  pub front : take pos after ≡ take pos o

-- The bytes v were put into the output o at pos, up to r, where they fit; a position r past the output says that they do
-- not, and then what stands before pos is kept.
pub record Wrote (v o after : List ℕ) (pos r : ℕ) : Type 0 where
  pub fits : r ≤ length o → (r ≡ pos + length v) × (after ≡ spliced o pos v)
  pub full : length o < r → (length o < pos + length v) × Kept o after pos
