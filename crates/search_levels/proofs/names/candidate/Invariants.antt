use Prim.Native.Nat.{ℕ, ◌-◌, ◌≤◌}
use mathlib.Core.List.{List}
use Rattle.format_translation.specs.Translation.{Translation}
use Rattle.format_translation.specs.Running.{clauses_of}
use Rattle.search_sources.specs.Inner.Goals.{Goal}
use Rattle.search_levels.specs.Inner.Setting.{IsNamed, up_to, Without, Seeks}
use Rattle.search_levels.proofs.names.candidate.Given as goal

abbrev pub invariant-loop-next : goal.invariant-loop-next
invariant-loop-next l = (up_to l.fn.from ≤ up_to l.next) × IsNamed l.table l.kind l.next
    × ((target places kinds memory free : List ℕ) (f : Translation) (g : Goal) → Seeks l.table l.source target places kinds l.tree memory free l.kind l.at f g
    → Without f.source (clauses_of f) l.kind g (up_to l.fn.from) (up_to l.next))

abbrev pub decreases-loop-next : goal.decreases-loop-next
decreases-loop-next l = 256 - up_to l.next
