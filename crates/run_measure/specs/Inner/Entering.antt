-- What the parts of weighing do to the weights.
use Rattle.std.specs.Prelude.{ℕ, ◌+◌, ◌*◌, ◌/◌, ◌%◌, ◌<◌, ◌≤◌, ◌≡◌, cond, List, get_or, eqb}
use Rattle.run_measure.specs.Inner.Sizes.{weighted, capped}
use Rattle.run_measure.specs.Inner.Counting.{linked}
use Rattle.run_measure.specs.Inner.Weighing.{window, sum_of, KeptBelow}

-- All weights from a position on are 0.
abbrev pub NoneFrom : List ℕ → ℕ → Type 0
NoneFrom ws at = (i : ℕ) → at ≤ i → get_or ws i 0 ≡ 0

-- A window has weights for number 0 and those numbers alone that the entry at e or one before it counts for.
abbrev pub OnlyBy : List ℕ → ℕ → List ℕ → ℕ → ℕ → Type 0
OnlyBy entries e ws at width = (m : ℕ) → 0 < m → m < width → ((j : ℕ) → linked e entries e (256 * j + m) ≡ 0) → get_or ws (at + m) 0 ≡ 0

-- All weights from a position on are 0 now, and what stands before it stays.
pub record Wiped (old new : List ℕ) (at : ℕ) : Type 0 where
  pub kept : KeptBelow old new at
  pub none : NoneFrom new at

-- One entry is added to the window behind that at `from`, and to the sum of that window.
pub record Shared (old new : List ℕ) (from width key n top before after : ℕ) : Type 0 where
  pub kept : KeptBelow old new (from + width)
  pub behind : (i : ℕ) → from + width + width ≤ i → get_or new i 0 ≡ get_or old i 0
  pub adds : (m : ℕ) → m < width
      → get_or new (from + width + m) 0
      ≡ capped top (get_or old (from + width + m) 0 + cond (eqb (key % 256) m) (window width old from (key / 256) * n) 0)
  pub sums : before ≡ sum_of top (window width old (from + width)) → after ≡ sum_of top (window width new (from + width))

-- The entry at `head` and those before it are added.
pub record Entered (entries : List ℕ) (head : ℕ) (old new : List ℕ) (from width top before after : ℕ) : Type 0 where
  pub kept : KeptBelow old new (from + width)
  pub behind : (i : ℕ) → from + width + width ≤ i → get_or new i 0 ≡ get_or old i 0
  pub adds : (m : ℕ) → m < width
      → get_or new (from + width + m) 0
      ≡ capped top (get_or old (from + width + m) 0 + weighted (window width old from) (λ j. linked head entries head (256 * j + m)))
  pub sums : before ≡ sum_of top (window width old (from + width)) → after ≡ sum_of top (window width new (from + width))
