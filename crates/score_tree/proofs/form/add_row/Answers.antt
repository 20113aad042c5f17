use mathlib.Core.Path.{sym, ◌∙◌}
use native.Mathlib.Omega.{arith}
use mir.Syntax.{w64}
use mir.Facts.{to_z-of_z}
use Rattle.score_tree.proofs.Integers.{told}
use Rattle.score_tree.proofs.Leaves.{place_back, figure_small, adding_back, adding_near, adding_next}
use Rattle.score_tree.proofs.form.add_row.Goals as goal

pub add_scaled-requires : goal.add_scaled-requires
add_scaled-requires c = (adding_near c.loop-j.invariant.1 c.requires.1, rw (to_z-of_z c.ranges.factor) c.requires.0.small, figure_small _ (sym c.is_figure.ensures ∙ c.if-not-is_figure.false))

pub loop-j-preserved : goal.loop-j-preserved
loop-j-preserved c = (omega (arith, c.loop-j-test.true), adding_next c.loop-j.invariant.1 (omega (arith, c.loop-j.invariant.1.added.long, c.loop-j-test.true, c.requires.1.few, c.requires.1.long)) _ _ _ (place_back c.requires.0 _) (sym c.is_figure.ensures ∙ c.if-not-is_figure.false) (adding_back c.loop-j.invariant.1 c.requires.1) (told w64 c.add_scaled.result c.add_scaled.type_inv ∙ c.add_scaled.ensures))
