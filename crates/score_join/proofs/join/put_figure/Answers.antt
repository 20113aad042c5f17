use mathlib.Core.Path.{◌∙◌, ap}
use mir.Facts.{to_z-of_z}
use Rattle.score_tree.specs.Figures.{unsigned}
use Rattle.score_join.proofs.Puts.{figure_put}
use Rattle.score_join.proofs.join.put_figure.Goals as goal

pub returns : goal.returns
returns c = figure_put _ _ _ _ _ (c.from.ensures ∙ c.encode.ensures.0 ∙ ap unsigned (to_z-of_z c.ranges.z)) c.requires.1 c.put_pair.ensures
