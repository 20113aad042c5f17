use Prim.Native.Nat.{◌-◌}
use lib.ListN.{length}
use Rattle.score_tree.proofs.Loading.{Loading}
use Rattle.score_tree.proofs.table.read_table.Given as goal

abbrev pub invariant-loop-p : goal.invariant-loop-p
invariant-loop-p l = Loading l.language l.table l.figures l.p l.q

abbrev pub decreases-loop-p : goal.decreases-loop-p
decreases-loop-p l = length l.language - l.p
