-- The walk over rows that puts masked forms: a law for each return and loop turn of the functions of walk.rt.
use Prim.Native.Nat.{ℕ, ◌+◌, ◌<◌, ◌≤◌}
use mathlib.Core.Path.{◌≡◌, refl}
use mathlib.Core.Bool.{true, cond}
use mathlib.Core.List.{List, [], ◌∷◌}
use native.Mathlib.Omega.{arith}
use lib.ListN.{length, get_or, drop}
use lib.Dec.{eqb}
use Rattle.format_language.specs.Language.{Language}
use Rattle.tree_reader.specs.Code.{Code}
use Rattle.tree_reader.specs.Syntax.{done, read, tree}
use Rattle.tree_reader.specs.Inner.Index.{Indexed}
use Rattle.tree_reader.specs.Inner.Positions.{production_place}
use Rattle.tree_reader.specs.declared.node.Syntax.TheVariants.{Tree}
use Rattle.tree_reader.proofs.Laws as Reader
use Rattle.format_card.specs.Inner.Sets.{in_set}
use Rattle.tree_mask.specs.declared.row.Row.{Row}
use Rattle.tree_mask.specs.Inner.Rows.{next_row, end_row, inner_row, Walkable, Nearer}
use Rattle.tree_mask.specs.Inner.Masking.{Puts, MasksTree, MasksRow, Goes, Advances}
use Rattle.tree_mask.proofs.Masks.{at_operands, all_done, all_not, all_next, all_last}
use Rattle.tree_mask.proofs.Rows.{stop_in, next_kinds}

-- Nothing is left of a row.
pub row_put : (s index b : List ℕ) (kinds : ℕ) (row : Row) (o : List ℕ) (next : Row) (o₁ : List ℕ) → Goes s index kinds b row o next o₁ → next.stop ≤ next.kind
    → MasksRow s index kinds b row o o₁ next.tree next.text
row_put s index b kinds row o next o₁ goes h =
    goes o₁ next.tree next.text (all_done s index kinds next.kind next.stop b next.tree next.levels o₁ next.text h)

-- One step more of a walk that began at `first`: the invariant of the loop again, and what is put where the walk ends there.
module _ (s index b : List ℕ) (kinds : ℕ) (first : Row) (o : List ℕ) (row : Row) (o₁ : List ℕ) (goes : Goes s index kinds b first o row o₁)
    (next : Row) (o₂ : List ℕ) (step : Advances s index kinds b row o₁ next o₂) where
  pub step_again : row.levels ≤ first.levels → length o₂ ≡ length o
      → Walkable s index b next × (next.levels ≤ first.levels) × (length o₂ ≡ length o) × Goes s index kinds b first o next o₂
  step_again fewer same = (step.walk, omega (arith, step.nearer.levels), same, λ o₃ e h all. goes o₃ e h (step.goes o₃ e h all))

  pub step_done : next.stop ≤ next.kind → Walkable s index b next × MasksRow s index kinds b first o o₂ next.tree next.text
  step_done h = (step.walk, goes o₂ next.tree next.text (row_put s index b kinds row o₁ next o₂ step.goes h))

-- Behind the next tree, at the end where it cannot be read, and in the row of its operands.
module _ (s index b : List ℕ) (kinds : ℕ) (row : Row) (w : Walkable s index b row) (o : List ℕ) (more : row.kind < row.stop) {k : ℕ} (ek : k ≡ get_or s row.kind 0) where
  goes_next : (o₁ : List ℕ) (e m : ℕ) → MasksTree s index kinds k b row.tree row.levels o o₁ row.text e m → Goes s index kinds b row o (next_row row e m) o₁
  unfolding next_row
  goes_next o₁ e m step o₂ x h all =
      all_next s index kinds row.kind row.stop b row.tree row.levels o row.text ek more (stop_in s index b row w more) step all

  walk_next : (e m : ℕ) → e ≤ length b → m ≤ e → Walkable s index b (next_row row e m)
  unfolding next_row
  walk_next e m inside behind = record { sound = w.sound; kinds = next_kinds s index b row w more; inside = inside; behind = behind }

  near_next : (e m : ℕ) → Nearer row (next_row row e m)
  unfolding next_row
  near_next e m = record { levels = omega arith; less = omega arith }

  pub advance : (e m : ℕ) {next : Row} → next ≡ next_row row e m → (o₁ : List ℕ) → MasksTree s index kinds k b row.tree row.levels o o₁ row.text e m → e ≤ length b → m ≤ e
      → Advances s index kinds b row o next o₁
  advance e m en o₁ step inside behind = rw en (record { walk = walk_next e m inside behind; nearer = near_next e m; goes = goes_next o₁ e m step })

  pub ended_stop : {next : Row} → next ≡ end_row row → next.stop ≤ next.kind
  unfolding end_row
  ended_stop en = rw en (omega arith)

  pub ended : {next : Row} → next ≡ end_row row → (o₁ : List ℕ)
      → ((l : Language) (a : Code) (rest : List ℕ) → Indexed index s l → read tree l [] row.levels k (drop row.tree b) ≡ done a rest → ⊥)
      → Advances s index kinds b row o next o₁
  unfolding end_row
  ended en o₁ none = rw en (record {
    walk = record { sound = w.sound; kinds = λ x h i. absurd (omega arith); inside = w.inside; behind = w.behind };
    nearer = record { levels = omega arith; less = omega arith };
    goes = λ o₂ e h all. all_not s index kinds row.kind row.stop b row.tree row.levels o row.text ek more (stop_in s index b row w more) none;
  })

  pub entered : (inner : Row) (o₁ : List ℕ)
      → ((o₂ : List ℕ) (e m : ℕ) → MasksRow s index kinds b inner o₁ o₂ e m → MasksTree s index kinds k b row.tree row.levels o o₂ row.text e m)
      → Walkable s index b inner → inner.levels < row.levels → row.kind + 1 ≡ row.stop → Advances s index kinds b row o inner o₁
  entered inner o₁ node v fewer last = record {
    walk = v;
    nearer = record { levels = omega arith; less = let n = Reader.row_short s inner.kind inner.stop w.sound.short v.kinds in omega arith };
    goes = λ o₂ e h all.
        all_last s index kinds row.kind row.stop b row.tree row.levels o row.text ek last (stop_in s index b row w more) (node o₂ e h all);
  }

-- A production whose name was put: its operands complete it.
pub inner_put : (s index b : List ℕ) (kinds k : ℕ) (row : Row) (o : List ℕ) → k < 32 → ((i : ℕ) → get_or b i 0 < 256) → {j class place : ℕ} → j ≡ k → class ≡ get_or index j 0
    → place ≡ cond (eqb class 0) (production_place Tree index k b row.tree) 0 → (place ≡ 0 → ⊥) → 0 < row.levels → in_set kinds k ≡ true
    → (o₁ : List ℕ) → Puts (get_or b row.tree 0 ∷ []) o o₁ row.text (row.text + 1) → {inner : Row} → inner ≡ inner_row s place row
    → (o₂ : List ℕ) (e m : ℕ) → MasksRow s index kinds b inner o₁ o₂ e m → MasksTree s index kinds k b row.tree row.levels o o₂ row.text e m
unfolding inner_row
inner_put s index b kinds k row o kind bytes ej ec ep pos level shown o₁ name ei o₂ e m all =
    at_operands s index b kinds k row.tree o row.text row.levels kind bytes ej ec ep pos (λ h. omega arith) refl shown name (rw ei at all)
