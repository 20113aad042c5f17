use Rattle.tree_reader.proofs.Laws.{is_zero, is_past, is_outside, is_kind}
use Rattle.tree_reader.proofs.node.argument_is.Goals as goal

pub returns-then-i-eq0 : goal.returns-then-i-eq0
returns-then-i-eq0 c = is_zero _ _ _ _ c.if-i-eq0.true

pub returns-then-uses-i : goal.returns-then-uses-i
returns-then-uses-i c = is_past _ _ _ _ c.if-i-eq0.false c.if-uses-i.true

pub returns-then-uses-place : goal.returns-then-uses-place
returns-then-uses-place c = is_outside _ _ _ _ c.if-i-eq0.false c.if-uses-i.false c.from.ensures c.if-uses-place.true

pub returns : goal.returns
returns c = is_kind _ _ _ _ c.if-i-eq0.false c.if-uses-i.false c.from.ensures c.from-2.ensures c.from-3.ensures
