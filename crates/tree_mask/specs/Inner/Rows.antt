-- Rows of trees that a walk goes over.
use Rattle.std.specs.Prelude.{ℕ, ◌+◌, ◌-◌, ◌*◌, ◌<◌, ◌≤◌, List, length}
use Rattle.format_fields.specs.Fields.{pair_at}
use Rattle.tree_reader.specs.Operations.{tree_levels}
use Rattle.tree_reader.specs.Inner.Index.{Sound}
use Rattle.tree_reader.specs.Inner.Positions.{KindsIn}
use Rattle.tree_mask.specs.declared.row.Row.{Row}

-- The row that the whole tree is by itself, of whatever kind.
abbrev pub whole_row : Row
whole_row = record { kind = 0; stop = 0; tree = 0; levels = tree_levels; text = 0 }

-- The row behind its next tree, which ends at e; its masked form ends at m.
unfoldable pub next_row : Row → ℕ → ℕ → Row
next_row row e m = record { kind = row.kind + 1; stop = row.stop; tree = e; levels = row.levels; text = m }

-- The row at its end.
unfoldable pub end_row : Row → Row
end_row row = record { kind = row.stop; stop = row.stop; tree = row.tree; levels = row.levels; text = row.text }

-- The row of the operands of its next tree, whose production's field stands before `place`.
unfoldable pub inner_row : List ℕ → ℕ → Row → Row
inner_row s place row = record { kind = place + 4; stop = place + 2 + pair_at s place; tree = row.tree + 1; levels = row.levels - 1; text = row.text + 1 }

-- What a walk over a row asks: a sound index, kinds that stand in the language, and positions in the tree; what is put for a
-- part of the tree is no longer than the part.
pub record Walkable (s index b : List ℕ) (row : Row) : Type 0 where
  pub sound : Sound index s
  pub kinds : KindsIn s row.kind row.stop
  pub inside : row.tree ≤ length b
  pub behind : row.text ≤ row.tree

-- What is left to walk: every level has fewer kinds than a language has bytes.
abbrev pub to_go : Row → ℕ
to_go row = 1025 * row.levels + (row.stop - row.kind)

-- A walk comes nearer to its end.
pub record Nearer (row next : Row) : Type 0 where
  pub levels : next.levels ≤ row.levels
  pub less : to_go next < to_go row
