use Prim.Native.Nat.{◌≤◌}
use Rattle.score_tree.specs.Inner.Kept.{Put}
use Rattle.score_tree.proofs.table.put_figures.Given as goal

abbrev pub invariant-loop-i : goal.invariant-loop-i
invariant-loop-i l = Put l.table l.from l.initial.figures l.figures l.at l.i × (l.i ≤ l.count)
