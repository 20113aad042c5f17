use native.Mathlib.Omega.{arith}
use Rattle.run_emit.proofs.Skips.{length_tree, length_two, length_three}
use Rattle.run_emit.proofs.skip.leaf_length.Goals as goal

pub returns-in-Tree : goal.returns-in-Tree
returns-in-Tree c = (length_tree _ _ c.in-Tree.is, omega arith, omega arith)

pub returns-in-Code : goal.returns-in-Code
returns-in-Code c = (length_two _ _ c.in-Code.is c.if-reading-at-eq3.true, omega arith, omega arith)

pub returns-in-Code-2 : goal.returns-in-Code-2
returns-in-Code-2 c = (length_three _ _ c.in-Code.is c.if-reading-at-eq3.false, omega arith, omega arith)
