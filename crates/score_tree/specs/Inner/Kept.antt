-- The figures of a load table by the positions of the language's bytes: where a production's field starts at p, its constant is
-- kept at p + 4, where its name stands, and the factor of each argument where that argument's kind stands.
use Rattle.std.specs.Prelude.{ℕ, ◌+◌, ◌*◌, ◌<◌, ◌≤◌, ◌≡◌, Bool, true, false, ◌&&◌, List, length, get_or, eqb, ℤ, pos, nat_abs, Option, None, Some}
use Rattle.format_fields.specs.Lists.{any}
use Rattle.format_fields.specs.Fields.{byte_at, pair_at}
use Rattle.format_fields.specs.Inner.Places.{is_whole, places, WholeEnd}
use Rattle.score_tree.specs.Figures.{figure_at}
use Rattle.score_tree.specs.LoadTable.{Table, figure_of}

-- How many figures a table kept by positions has: as many as a language has bytes.
abbrev pub figures_length : ℕ
figures_length = 1024

-- Each figure is one of two bytes.
unfoldable pub Small : List ℤ → Type 0
Small l = (i : ℕ) → nat_abs (get_or l i (pos 0)) ≤ 32768

-- So many figures of the table t, from `from` on, were put at `at`.
pub record Put (t : List ℕ) (from : ℕ) (before after : List ℤ) (at count : ℕ) : Type 0 where
  pub long : length after ≡ length before
  pub put : (i : ℕ) → i < count → get_or after (at + i) (pos 0) ≡ figure_at t (from + 2 * i)
  pub below : (i : ℕ) → i < at → get_or after i (pos 0) ≡ get_or before i (pos 0)
  pub small : Small before → Small after

-- The field at q of the table is whole, and is the load of the production at p of the language. Their contents are a result, a
-- name and the arguments, and for each of the two bytes in front two figures' worth of them.
unfoldable pub is_load : List ℕ → ℕ → List ℕ → ℕ → Bool
is_load s p t q =
    is_whole t q
    && (eqb (byte_at t q) 0x24
    && (eqb (pair_at t (q + 1)) (2 * pair_at s (p + 1))
    && (eqb (byte_at t (q + 3)) (byte_at s (p + 3)) && eqb (byte_at t (q + 4)) (byte_at s (p + 4)))))

-- r is where the load at q ends, if there is one.
abbrev pub LoadEnd : List ℕ → ℕ → List ℕ → ℕ → Option ℕ → Type 0
LoadEnd s p t q None = is_load s p t q ≡ false
LoadEnd s p t q (Some e) = (is_load s p t q ≡ true) × WholeEnd t q e

-- The figures are those of table w, by the positions of the language's bytes s.
pub record Kept (figures : List ℤ) (s : List ℕ) (w : Table) : Type 0 where
  pub small : Small figures
  pub long : length figures ≡ figures_length
  pub is : (p : ℕ) → any (eqb p) (places s) ≡ true → byte_at s p ≡ 0x12 → (i : ℕ) → i + 1 < pair_at s (p + 1)
      → get_or figures (p + 4 + i) (pos 0) ≡ figure_of w (byte_at s (p + 3)) (byte_at s (p + 4)) i
