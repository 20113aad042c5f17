use Prim.Native.Nat.{◌+◌, ◌-◌, ◌*◌, ◌≤◌}
use mathlib.Core.Path.{◌≡◌}
use lib.ListN.{length}
use Rattle.tree_reader.specs.Inner.Positions.{operands_from, read_at, KindsIn}
use Rattle.tree_reader.proofs.read.+operands_row.Given as goal

abbrev pub decreases-operands : goal.decreases-operands
decreases-operands l = 2 * l.levels

abbrev pub decreases-row : goal.decreases-row
decreases-row l = 2 * l.levels + 1

abbrev pub invariant-operands-loop-q : goal.invariant-operands-loop-q
invariant-operands-loop-q l = (l.to ≤ length l.bytes) × (l.left ≤ l.levels) × KindsIn l.language l.q l.end × (operands_from (read_at l.syntax l.language l.index l.uses l.bytes l.left) l.language (l.end - l.q) l.q l.to ≡ operands_from (read_at l.syntax l.language l.index l.uses l.bytes l.levels) l.language (l.stop - l.from) l.from l.at)

abbrev pub decreases-operands-loop-q : goal.decreases-operands-loop-q
decreases-operands-loop-q l = 1025 * l.left + (l.end - l.q)
