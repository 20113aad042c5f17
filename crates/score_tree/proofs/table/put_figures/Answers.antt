use mathlib.Core.Path.{◌∙◌}
use native.Mathlib.Omega.{arith}
use mir.Syntax.{w32}
use Rattle.score_tree.proofs.Integers.{told}
use Rattle.score_tree.proofs.Putting.{put_next}
use Rattle.score_tree.proofs.table.put_figures.Goals as goal

pub loop-i-preserved : goal.loop-i-preserved
loop-i-preserved c = (put_next _ _ _ _ _ _ _ c.loop-i.invariant.0 c.loop-i-test.true c.requires.1 _ (told w32 c.figure.result c.figure.type_inv ∙ c.figure.ensures.0) (rw (told w32 c.figure.result c.figure.type_inv) c.figure.ensures.1), omega arith)
