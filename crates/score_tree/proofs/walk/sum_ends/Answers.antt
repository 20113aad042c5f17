use Prim.Native.Nat.{◌+◌, ◌-◌}
use mathlib.Core.Path.{◌≡◌, ◌∙◌}
use native.Mathlib.Omega.{arith}
use lib.ListN.{length}
use mir.Syntax.{w64}
use Rattle.std.proofs.lemmas.List.{length-take, length-drop}
use Rattle.score_tree.proofs.Integers.{told}
use Rattle.score_tree.proofs.Weighing.{factor_near, small_part}
use Rattle.score_tree.proofs.walk.sum_ends.Goals as goal

pub weigh-requires : goal.weigh-requires
weigh-requires c =
    let n : c.args.first + length c.args.operands.now - c.args.first ≡ length c.args.operands.now = omega arith in (
      rw (told w64 c.from-constant.result c.from-constant.type_inv ∙ c.from-constant.ensures) (factor_near _ _ c.requires.4),
      rw (n, length-take, length-drop) (omega (arith, c.requires.1, c.requires.2)),
      c.requires.3,
      rw n (small_part _ _ _ c.requires.4),
      c.requires.5,
    )
