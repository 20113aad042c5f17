use Rattle.search_levels.proofs.Kept.{recalled_1, recalled_2, recalled_3, recalled_4, recalled_5}
use Rattle.search_levels.proofs.memory.recall.Goals as goal

pub returns-then-b-eq0 : goal.returns-then-b-eq0
returns-then-b-eq0 c = recalled_1 _ c.byte_for.ensures c.from-b.ensures c.if-b-eq0.true

pub returns-then-b-m : goal.returns-then-b-m
returns-then-b-m c = recalled_2 _ c.byte_for.ensures c.from-b.ensures c.if-b-eq0.false c.if-b-le-LAST_KNOWN.true c.if-b-m.true

pub returns-then-b-le-LAST_KNOWN : goal.returns-then-b-le-LAST_KNOWN
returns-then-b-le-LAST_KNOWN c = recalled_3 _ c.byte_for.ensures c.from-b.ensures c.if-b-eq0.false c.if-b-le-LAST_KNOWN.true c.if-b-m.false

pub returns-then-m-b : goal.returns-then-m-b
returns-then-m-b c = recalled_4 _ c.byte_for.ensures c.from-b.ensures c.if-b-eq0.false c.if-b-le-LAST_KNOWN.false c.if-m-b.true

pub returns : goal.returns
returns c = recalled_5 _ c.byte_for.ensures c.from-b.ensures c.if-b-eq0.false c.if-b-le-LAST_KNOWN.false c.if-m-b.false
