use Prim.Native.Nat.{ℕ, ◌-◌, ◌≤◌}
use mathlib.Core.List.{List}
use Rattle.format_translation.specs.Translation.{Translation}
use Rattle.search_sources.specs.Inner.Goals.{Goal}
use Rattle.search_levels.specs.Inner.Clauses.{MatchAsks}
use Rattle.search_levels.proofs.Whole.{Going}
use Rattle.search_levels.proofs.clause.matches.Given as goal

abbrev pub invariant-loop-c : goal.invariant-loop-c
invariant-loop-c l = (l.stop ≤ 4096) × ((f : Translation) (k p : ℕ) (ks : List ℕ) (g : Goal) → MatchAsks l.searched.table.now l.searched.target.now l.searched.places.now l.searched.kinds.now l.searched.tree.now l.memory l.initial.bound l.place l.clause l.at f k p ks g → Going l.searched.table.now l.searched.tree.now l.bound l.c l.stop l.to f k p ks g)

abbrev pub decreases-loop-c : goal.decreases-loop-c
decreases-loop-c l = l.stop - l.c
