use native.Mathlib.Omega.{arith}
use Rattle.tree_index.proofs.Building.{tree_inside, index_written}
use Rattle.tree_index.proofs.build.write_index.Goals as goal

pub write_row-ends-requires : goal.write_row-ends-requires
write_row-ends-requires c = let p = c.operands_at-operands.ensures c.requires.2.0 c.requires.2.1 c.requires.2.2 in (record { short = c.requires.0; few = omega (arith, c.requires.0, c.requires.1) }, p.kinds, (c.requires.2.0, p.operands, p.row, p.row.lie.within))

pub put_entry-requires : goal.put_entry-requires
put_entry-requires c = let p = c.operands_at-operands.ensures c.requires.2.0 c.requires.2.1 c.requires.2.2 in let y = tree_inside _ _ _ _ c.requires.2.0 c.requires.2.1 _ _ _ p _ _ _ _ _ (c.write_row-ends.ensures c.requires.2.0 p.operands p.row) in (omega (arith, c.requires.0), omega (arith, y, c.requires.0), omega (arith, c.requires.1))

pub returns : goal.returns
returns c = λ l t h. let p = c.operands_at-operands.ensures l t h in index_written _ _ _ _ l t _ _ _ p _ _ _ _ _ (c.write_row-ends.ensures l p.operands p.row) _ c.put_entry.ensures c.write_row-ends.auto.out
