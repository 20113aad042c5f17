-- The ranges of token classes (paper 01, "Languages"; paper 02, 2026-01 and 2026-10).
use Rattle.std.specs.Prelude.{ℕ, ◌+◌, ◌-◌, ◌%◌, Bool, not, ◌&&◌, ◌||◌, leb, eqb}
use Rattle.format_fields.specs.Lists.{all, count_up}

-- The range of a token class: its lowest value, a bound, and the step from one value to the next (paper 02, 2026-10).
pub record Range : Type 0 where
  pub low : ℕ
  pub high : ℕ
  pub step : ℕ

-- The range from low to high in steps.
abbrev pub range : ℕ → ℕ → ℕ → Range
range low high step = record { low = low; high = high; step = step }

-- A value is legal if it is low plus a multiple of step, and at most high (paper 02, 2026-10).
unfoldable pub in_range : Range → ℕ → Bool
in_range c v = leb c.low v && (leb v c.high && eqb ((v - c.low) % c.step) 0)

-- Equal ranges: low, high and step are equal (paper 02, 2026-10).
unfoldable pub same_range : Range → Range → Bool
same_range c d = eqb c.low d.low && (eqb c.high d.high && eqb c.step d.step)

-- A value that is legal in the first range is legal in the second.
unfoldable pub legal_too : Range → Range → ℕ → Bool
legal_too c d v = not (in_range c v) || in_range d v

-- One range lies in another, which contains it: each value from low to high that is legal in the inner one is legal in
-- the outer one (paper 02, 2026-01 and 2026-10).
unfoldable pub range_within : Range → Range → Bool
range_within inner outer = all (legal_too inner outer) (count_up (inner.high + 1 - inner.low) inner.low)
