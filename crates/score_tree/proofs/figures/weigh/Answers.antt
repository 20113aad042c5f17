use Prim.Native.Nat.{◌-◌}
use mathlib.Core.Path.{◌∙◌}
use Prim.Native.Nat.{◌≤◌}
use lib.IntN.{nat_abs}
use mir.Val.{to_z, of_z}
use mir.Syntax.{w64}
use mir.Facts.{to_z-of_z}
use Rattle.score_tree.specs.Inner.Sums.{low, high}
use Rattle.score_tree.proofs.Integers.{told}
use Rattle.score_tree.proofs.Weighing.{down_begin, down_small, down_next, down_end, operand_near, low_back, high_back, low_near, high_near, factor_back, factor_near}
use Rattle.score_tree.proofs.figures.weigh.Goals as goal

pub loop-i-init : goal.loop-i-init
loop-i-init c =
    let h : nat_abs (to_z w64 (of_z w64 c.args.constant)) ≤ 32768 = rw (to_z-of_z c.ranges.constant) c.requires.0 in
    (down_begin _ low high _ _ c.requires.1 h, down_begin _ high low _ _ c.requires.1 h)

pub add_end-least-requires : goal.add_end-least-requires
add_end-least-requires c = (down_small c.loop-i.invariant.0 c.requires.2, factor_near _ _ c.requires.3, low_near _ _ c.requires.4, high_near _ _ c.requires.4)

pub add_end-greatest-requires : goal.add_end-greatest-requires
add_end-greatest-requires c = (down_small c.loop-i.invariant.1 c.requires.2, factor_near _ _ c.requires.3, high_near _ _ c.requires.4, low_near _ _ c.requires.4)

pub loop-i-preserved : goal.loop-i-preserved
loop-i-preserved c =
    let n = operand_near c.args.operands.now (c.loop-i.i - 1) c.requires.4 in
    let f = factor_back c.args.factors.now (c.loop-i.i - 1) c.requires.3 in
    let x = low_back c.args.operands.now (c.loop-i.i - 1) c.requires.4 in
    let y = high_back c.args.operands.now (c.loop-i.i - 1) c.requires.4 in (
      down_next c.loop-i.invariant.0 c.loop-i-test.true c.loop-i.auto.i c.requires.1 c.requires.3 _ _ _ _ n.least n.greatest f x y (told w64 c.add_end-least.result c.add_end-least.type_inv ∙ c.add_end-least.ensures),
      down_next c.loop-i.invariant.1 c.loop-i-test.true c.loop-i.auto.i c.requires.1 c.requires.3 _ _ _ _ n.greatest n.least f y x (told w64 c.add_end-greatest.result c.add_end-greatest.type_inv ∙ c.add_end-greatest.ensures),
    )

pub returns : goal.returns
returns c = (down_end c.loop-i.invariant.0 c.loop-i-test.false _ (to_z-of_z c.ranges.constant), down_end c.loop-i.invariant.1 c.loop-i-test.false _ (to_z-of_z c.ranges.constant))
