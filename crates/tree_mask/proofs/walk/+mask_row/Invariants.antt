use Prim.Native.Nat.{◌≤◌}
use mathlib.Core.Path.{◌≡◌}
use lib.ListN.{length}
use Rattle.tree_mask.specs.Inner.Rows.{Walkable, to_go}
use Rattle.tree_mask.specs.Inner.Masking.{Goes}
use Rattle.tree_mask.proofs.walk.+mask_row.Given as goal

abbrev pub decreases-mask_row : goal.decreases-mask_row
decreases-mask_row l = l.row.levels

abbrev pub invariant-loop-next : goal.invariant-loop-next
invariant-loop-next l = Walkable l.language l.index l.tree l.next × (l.next.levels ≤ l.initial.next.levels) × (length l.out ≡ length l.initial.out) × Goes l.language l.index l.seen l.tree l.initial.next l.initial.out l.next l.out

abbrev pub decreases-loop-next : goal.decreases-loop-next
decreases-loop-next l = to_go l.next
