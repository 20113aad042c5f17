use Rattle.score_tree.specs.Inner.Sums.{low, high}
use Rattle.score_tree.proofs.Weighing.{Down}
use Rattle.score_tree.proofs.figures.weigh.Given as goal

abbrev pub invariant-loop-i : goal.invariant-loop-i
invariant-loop-i l = Down l.constant low high l.factors l.operands l.least l.i × Down l.constant high low l.factors l.operands l.greatest l.i
