use Rattle.std.proofs.Common.{arith}
use Rattle.std.proofs.lemmas.Int.{ints}
use Rattle.score_tree.specs.Figures.{figure_at}
use Rattle.score_tree.proofs.figures.figure.Goals as goal

pub returns : goal.returns
unfolding figure_at
returns c = (grind (arith, ints), omega (arith, ints))
