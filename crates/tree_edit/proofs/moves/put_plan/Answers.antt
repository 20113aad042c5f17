use native.Mathlib.Omega.{arith}
use Rattle.tree_edit.proofs.Entries.{plan_put}
use Rattle.tree_edit.proofs.moves.put_plan.Goals as goal

pub put_both-requires : goal.put_both-requires
put_both-requires c = (record { rise = omega arith; fits = omega (arith, c.requires.0, c.requires.1) }, (record { rise = omega arith; fits = omega arith }, omega arith))

pub put-requires : goal.put-requires
put-requires c = (record { rise = c.requires.1; fits = omega arith }, omega (arith, c.requires.0, c.requires.1, c.requires.2))

pub returns : goal.returns
returns c = plan_put _ _ _ c.args.block.now _ _ _ c.requires.0 c.requires.1 c.requires.2 _ _ c.put_both.ensures c.put_both.auto.out c.put.ensures
