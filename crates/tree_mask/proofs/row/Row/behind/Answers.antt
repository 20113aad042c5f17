use Rattle.tree_mask.specs.Inner.Rows.{next_row}
use mathlib.Core.Path.{refl}
use Rattle.tree_mask.proofs.row.Row.behind.Goals as goal

pub returns : goal.returns
unfolding next_row
returns c = refl
