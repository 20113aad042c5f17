use mathlib.Core.Path.{refl, ◌∙◌}
use mir.Syntax.{w64}
use mir.Facts.{to_z-of_z, to_z_pos}
use native.Mathlib.Omega.{arith}
use Rattle.score_tree.proofs.Integers.{told}
use Rattle.score_tree.proofs.Leaves.{place_back, leaf_token, leaf_argument, leaf_past}
use Rattle.score_tree.proofs.form.add_leaf.Goals as goal

pub returns-then-bytes-at-eq2 : goal.returns-then-bytes-at-eq2
returns-then-bytes-at-eq2 c = leaf_token _ _ c.requires.1 (to_z-of_z c.ranges.factor) (told w64 c.add_scaled.result c.add_scaled.type_inv ∙ c.add_scaled.ensures) c.if-bytes-at-eq2.true (place_back c.requires.1 _) _ c.pair_in-value.ensures.0 c.pair_in-value.ensures.1 (to_z_pos w64 (omega (arith, c.pair_in-value.ensures.1)))

pub returns-then-count-number : goal.returns-then-count-number
returns-then-count-number c = leaf_past _ _ c.if-bytes-at-eq2.false _ c.from-number.ensures c.if-count-number.true

pub returns : goal.returns
returns c = leaf_argument _ _ c.requires.1 (to_z-of_z c.ranges.factor) (told w64 c.add_scaled-2.result c.add_scaled-2.type_inv ∙ c.add_scaled-2.ensures) c.requires.0 c.if-bytes-at-eq2.false _ c.from-number.ensures c.if-count-number.false (place_back c.requires.1 _) refl
