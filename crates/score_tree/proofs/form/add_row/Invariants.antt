use Prim.Native.Nat.{◌≤◌}
use Rattle.score_tree.proofs.Leaves.{Adding}
use Rattle.score_tree.proofs.form.add_row.Given as goal

abbrev pub invariant-loop-j : goal.invariant-loop-j
invariant-loop-j l = (l.j ≤ l.count) × Adding l.row l.factor l.initial.sum l.sum l.j
