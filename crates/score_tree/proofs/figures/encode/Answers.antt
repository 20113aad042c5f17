use Rattle.std.proofs.Common.{arith}
use Rattle.std.proofs.lemmas.Int.{ints}
use Rattle.score_tree.specs.Figures.{between, unsigned}
use Rattle.score_tree.proofs.figures.encode.Goals as goal

pub overflow_cast-z : goal.overflow_cast-z
unfolding between
overflow_cast-z c = grind (arith, ints)

pub returns : goal.returns
unfolding between unsigned
returns c = (grind (arith, ints), grind (arith, ints))
