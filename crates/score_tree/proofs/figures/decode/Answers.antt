use Rattle.std.proofs.Common.{arith}
use Rattle.std.proofs.lemmas.Int.{ints}
use Rattle.score_tree.specs.Figures.{signed}
use Rattle.score_tree.proofs.figures.decode.Goals as goal

pub returns : goal.returns
unfolding signed
returns c = (grind (arith, ints), grind (arith, ints))
