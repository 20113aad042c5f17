use native.Mathlib.Omega.{arith}
use Rattle.tree_reader.proofs.Laws.{numbered_end, numbered_zero, numbered_good, numbered_bad}
use Rattle.tree_reader.proofs.node.numbered.Goals as goal

pub returns-then-bytes-at-lt2 : goal.returns-then-bytes-at-lt2
returns-then-bytes-at-lt2 c = (numbered_end _ _ _ _ c.if-bytes-at-lt2.true, tt)

pub returns-then-bytes-at-eq0 : goal.returns-then-bytes-at-eq0
returns-then-bytes-at-eq0 c = (numbered_zero _ _ _ _ c.if-bytes-at-lt2.false c.if-bytes-at-eq0.true, tt)

pub returns-then-argument_is : goal.returns-then-argument_is
returns-then-argument_is c = (numbered_good _ _ _ _ c.if-bytes-at-lt2.false c.from.ensures c.from-2.ensures c.if-bytes-at-eq0.false c.argument_is.ensures c.if-argument_is.true, omega arith)

pub returns : goal.returns
returns c = (numbered_bad _ _ _ _ c.if-bytes-at-lt2.false c.from.ensures c.from-2.ensures c.if-bytes-at-eq0.false c.argument_is.ensures c.if-argument_is.false, tt)
