use Rattle.std.proofs.Common.{arith}
use Rattle.std.proofs.lemmas.Int.{ints, to_z-of_z}
use Rattle.score_tree.specs.Inner.Sums.{turned}
use Rattle.score_tree.proofs.figures.add_end.Goals as goal

pub returns-then-factor-lt0 : goal.returns-then-factor-lt0
unfolding turned
returns-then-factor-lt0 c = grind (arith, to_z-of_z, ints)

pub returns : goal.returns
unfolding turned
returns c = grind (arith, to_z-of_z, ints)
