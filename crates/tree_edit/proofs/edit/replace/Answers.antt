use Rattle.std.proofs.Common.{arith, refl}
use Rattle.tree_edit.proofs.Planning.{block_inside, plan_too_long, plan_given}
use Rattle.tree_edit.proofs.edit.replace.Goals as goal

pub overflow_sub-size : goal.overflow_sub-size
overflow_sub-size c = omega (arith, block_inside c.requires.6)

pub returns-then-size-gt-LONGEST : goal.returns-then-size-gt-LONGEST
returns-then-size-gt-LONGEST c = λ path kind l t a u w. plan_too_long w _ _ c.if-size-gt-LONGEST.true

pub rewrite-requires : goal.rewrite-requires
rewrite-requires c = (refl, c.if-size-gt-LONGEST.false, c.requires)

pub returns : goal.returns
returns c = λ path kind l t a u w. plan_given w c.args.plan.now c.args.plan_index.now c.if-size-gt-LONGEST.false _ (c.rewrite.ensures path kind l t a u w)
