use native.Mathlib.Omega.{arith}
use Rattle.tree_reader.proofs.Laws.{argument_end, argument_good, argument_bad}
use Rattle.tree_reader.proofs.node.argument.Goals as goal

pub returns-then-bytes-at : goal.returns-then-bytes-at
returns-then-bytes-at c = (argument_end _ _ _ _ c.if-bytes-at.true, tt)

pub returns-then-argument_is : goal.returns-then-argument_is
returns-then-argument_is c = (argument_good _ _ _ _ c.if-bytes-at.false c.from.ensures c.argument_is.ensures c.if-argument_is.true, omega arith)

pub returns : goal.returns
returns c = (argument_bad _ _ _ _ c.if-bytes-at.false c.from.ensures c.argument_is.ensures c.if-argument_is.false, tt)
