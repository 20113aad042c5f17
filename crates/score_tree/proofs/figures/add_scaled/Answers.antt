use mathlib.Core.Path.{◌∙◌}
use mir.Syntax.{w64}
use mir.Facts.{to_z-of_z}
use Rattle.score_tree.proofs.Integers.{told, sum_fits, sum_is}
use Rattle.score_tree.proofs.figures.add_scaled.Goals as goal

pub overflow_add-result : goal.overflow_add-result
overflow_add-result c = sum_fits _ _ _ _ _ _ (to_z-of_z c.ranges.sum) (told w64 c.from.result c.from.type_inv ∙ (c.from.ensures ∙ to_z-of_z c.ranges.factor)) (to_z-of_z c.ranges.score) c.requires.0 c.requires.1 c.requires.2

pub returns : goal.returns
returns c = sum_is _ _ _ _ _ _ (to_z-of_z c.ranges.sum) (told w64 c.from.result c.from.type_inv ∙ (c.from.ensures ∙ to_z-of_z c.ranges.factor)) (to_z-of_z c.ranges.score) c.requires.0 c.requires.1 c.requires.2
