use Rattle.std.proofs.Common.{arith}
use Rattle.tree_block.proofs.Steps.{zero_none, entry_inside, opened_row, argument_leads}
use Rattle.tree_block.proofs.descent.argument.Goals as goal

pub returns-then-number-eq0 : goal.returns-then-number-eq0
returns-then-number-eq0 c = λ l t h. zero_none h _ c.if-number-eq0.true

pub operands_at-operands-requires : goal.operands_at-operands-requires
operands_at-operands-requires c = (c.requires.0, c.requires.1, c.requires.2.there)

pub overflow_add-block : goal.overflow_add-block
overflow_add-block c = omega (arith, entry_inside c.requires.2)

pub argument_among-requires : goal.argument_among-requires
argument_among-requires c =
    let o = c.operands_at-operands.ensures c.requires.0 c.requires.1 c.requires.2.there in
    (omega (arith, c.if-number-eq0.false), o.kinds, (_, _, c.requires.0, o.operands, opened_row c.requires.2 o))

pub returns : goal.returns
returns c = λ l t h.
    let o = c.operands_at-operands.ensures l t h.there in
    argument_leads h o _ c.if-number-eq0.false _ (c.argument_among.ensures _ _ l _ (opened_row h o))
