use mathlib.Core.Path.{refl}
use Rattle.tree_mask.specs.Inner.Rows.{inner_row}
use Rattle.tree_mask.proofs.row.Row.inner.Goals as goal

pub returns : goal.returns
unfolding inner_row
returns c = let o = c.operands_of-operands.ensures in rw (o.0, o.1) refl
