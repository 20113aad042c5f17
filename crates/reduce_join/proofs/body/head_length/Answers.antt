use native.Mathlib.Omega.{arith}
use Rattle.reduce_join.proofs.Splices.{length_plain, length_numbered}
use Rattle.reduce_join.proofs.body.head_length.Goals as goal

pub returns-then-number-eq0 : goal.returns-then-number-eq0
returns-then-number-eq0 c = (length_plain _ c.if-number-eq0.true, omega arith, omega arith)

pub returns : goal.returns
returns c = (length_numbered _ c.if-number-eq0.false, omega arith, omega arith)
