use Rattle.tree_mask.specs.Inner.Rows.{end_row}
use mathlib.Core.Path.{refl}
use Rattle.tree_mask.proofs.row.Row.ended.Goals as goal

pub returns : goal.returns
unfolding end_row
returns c = refl
