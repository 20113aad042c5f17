-- Bytes that are put into an output up to a limit.
use Rattle.std.specs.Prelude.{ℕ, min, ◌+◌, ◌<◌, ◌≤◌, ◌≡◌, List, length}
use Rattle.format_fields.specs.Inner.Writing.{spliced}

-- The bytes v were put into the output o at pos, up to r, or to the limit where they go past it. They stand there where r
-- lies below the limit and in the output.
pub record Puts (limit : ℕ) (v o after : List ℕ) (pos r : ℕ) : Type 0 where
  pub to : r ≡ min limit (pos + length v)
  pub long : length after ≡ length o
  pub is : r < limit → r ≤ length o → after ≡ spliced o pos v
