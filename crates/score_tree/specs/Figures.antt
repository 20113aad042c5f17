-- Figures of a load table: signed numbers of two bytes, from -32,768 to 32,767 (paper 02, 2026-03).
use Rattle.std.specs.Prelude.{ℕ, zero, suc, ◌+◌, ◌-◌, Bool, false, cond, List, [], ◌∷◌, ltb, ℤ, pos, negsuc, ◌-ℤ◌}
use Rattle.std.specs.Int.Signed.{lt_z, le_z}
use Rattle.format_fields.specs.Fields.{pair_at, two_bytes}

-- Two's complement: from 32,768 on a number of two bytes stands for itself less 65,536.
unfoldable pub signed : ℕ → ℤ
signed n = cond (ltb n 32768) (pos n) (pos n -ℤ pos 65536)

-- The figure in the two bytes at i.
unfoldable pub figure_at : List ℕ → ℕ → ℤ
figure_at s i = signed (pair_at s i)

-- So many figures, one after the other, from i on.
unfoldable pub figures_from : ℕ → List ℕ → ℕ → List ℤ
figures_from zero s i = []
figures_from (suc n) s i = figure_at s i ∷ figures_from n s (i + 2)

-- The number that stands for a figure in two bytes, and these.
unfoldable pub unsigned : ℤ → ℕ
unsigned (pos n) = n
unsigned (negsuc n) = 65535 - n

-- The two bytes of a figure.
unfoldable pub figure_bytes : ℤ → List ℕ
figure_bytes z = two_bytes (unsigned z)

-- From -(low + 1) to high.
unfoldable pub between : ℕ → ℕ → ℤ → Bool
between low high z = cond (lt_z z (negsuc low)) false (le_z z (pos high))

-- A number fits two bytes: from -32,768 to 32,767.
abbrev pub is_figure : ℤ → Bool
is_figure z = between 32767 32767 z

-- A finished score is in the range: from -1,000,000,000 to 1,000,000,000.
abbrev pub is_score : ℤ → Bool
is_score z = between 999999999 1000000000 z
