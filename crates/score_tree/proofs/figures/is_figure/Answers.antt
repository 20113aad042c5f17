use Rattle.std.proofs.Common.{rules}
use Rattle.score_tree.specs.Figures.{between}
use Rattle.score_tree.proofs.figures.is_figure.Goals as goal

pub returns : goal.returns
unfolding between
returns c = search rules
