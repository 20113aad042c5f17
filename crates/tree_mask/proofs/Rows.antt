-- Rows that a walk goes over: their kinds, the row behind their next tree, and the row of its operands.
use Prim.Native.Nat.{ℕ, ◌+◌, ◌-◌, ◌<◌, ◌≤◌}
use mathlib.Core.Path.{◌≡◌, refl}
use mathlib.Core.Bool.{cond}
use mathlib.Core.List.{List}
use native.Mathlib.Omega.{arith}
use lib.ListN.{length, get_or}
use lib.Dec.{eqb}
use Rattle.tree_reader.specs.Inner.Index.{Sound}
use Rattle.tree_reader.specs.Inner.Positions.{production_place, KindsIn}
use Rattle.tree_reader.specs.declared.node.Syntax.TheVariants.{Tree}
use Rattle.check_operations.proofs.Reading.{at_name, at_kinds}
use Rattle.tree_mask.specs.declared.row.Row.{Row}
use Rattle.tree_mask.specs.Inner.Rows.{inner_row, Walkable}

module _ (s index b : List ℕ) (row : Row) (w : Walkable s index b row) (more : row.kind < row.stop) where
  pub kind_in : (row.kind < length s) × (get_or s row.kind 0 < 32)
  kind_in = w.kinds row.kind (omega arith) more

  pub kind_small : {k : ℕ} → k ≡ get_or s row.kind 0 → k < 32
  kind_small e = rw e kind_in.1

  pub stop_in : row.stop ≤ length s
  stop_in = let i = w.kinds (row.stop - 1) (omega arith) (omega arith) in omega (arith, i.0)

  pub row_short : row.kind < 65536
  row_short = omega (arith, kind_in.0, w.sound.short)

  pub next_kinds : KindsIn s (row.kind + 1) row.stop
  next_kinds x h i = w.kinds x (omega arith) i

-- A production that is the next tree of a row: its operands are a row.
module _ (s index b : List ℕ) (k : ℕ) (row : Row) (kind : k < 32) (bytes : (i : ℕ) → get_or b i 0 < 256) {j class : ℕ} (ej : j ≡ k) (ec : class ≡ get_or index j 0)
    {place : ℕ} (ep : place ≡ cond (eqb class 0) (production_place Tree index k b row.tree) 0) (pos : place ≡ 0 → ⊥) (level : 0 < row.levels)
    {inner : Row} (ei : inner ≡ inner_row s place row) where
  pub inner_walk : Sound index s → row.text ≤ row.tree → Walkable s index b inner
  unfolding inner_row
  inner_walk z behind = rw ei (record {
    sound = z;
    kinds = at_kinds s index b k row.tree kind bytes ej ec ep pos refl z;
    inside = omega (arith, at_name s index b k row.tree kind bytes ej ec ep pos);
    behind = omega arith;
  })

  pub inner_levels : inner.levels < row.levels
  unfolding inner_row
  inner_levels = rw ei (omega arith)
