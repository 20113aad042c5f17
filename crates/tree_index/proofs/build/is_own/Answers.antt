use Rattle.std.proofs.Common.{arith, rules}
use Rattle.tree_index.proofs.Pairs.{entry_inside}
use Rattle.tree_index.proofs.Building.{own_start, own_compared}
use Rattle.tree_index.proofs.build.is_own.Goals as goal

pub returns-in_default : goal.returns-in_default
returns-in_default c = λ l t h. own_start _ t c.in_default.ensures

pub compare_row-requires : goal.compare_row-requires
compare_row-requires c =
    let p = c.operands_at-operands.ensures c.requires.1.0 c.requires.1.1 c.requires.1.2 in
    let y = entry_inside _ _ c.in-Some.ensures.0 in
    (omega arith, p.kinds, (c.requires.1.0, p.operands, p.row, p.row.lie.within))

pub returns : goal.returns
returns c = λ l t h.
    let p = c.operands_at-operands.ensures l t h in
    own_compared _ t _ _ _ _ l _ _ _ p _ c.in-Some.ensures.0 _ (c.compare_row.ensures.1 l p.operands p.row) _ (search rules)
