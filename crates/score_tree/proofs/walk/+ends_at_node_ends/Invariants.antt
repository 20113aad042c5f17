use Prim.Native.Nat.{◌+◌, ◌*◌}
use mathlib.Core.List.{List}
use Rattle.format_language.specs.Language.{Language}
use Rattle.score_tree.specs.Linear.{Loads}
use Rattle.score_tree.specs.Inner.Spreads.{read_spread}
use Rattle.score_tree.specs.Inner.Walks.{RowAsks}
use Rattle.score_tree.proofs.Plans.{Going}
use Prim.Native.Nat.{ℕ}
use Rattle.score_tree.proofs.walk.+ends_at_node_ends.Given as goal

abbrev pub decreases-ends_at : goal.decreases-ends_at
decreases-ends_at l = 2 * l.levels

abbrev pub decreases-node_ends : goal.decreases-node_ends
decreases-node_ends l = 2 * l.levels + 1

abbrev pub invariant-node_ends-loop-i : goal.invariant-node_ends-loop-i
invariant-node_ends-loop-i here = (l : Language) (w : Loads) (k p : ℕ) (ks : List ℕ) → RowAsks here.loaded here.production here.bytes here.at l w k p ks
    → Going (read_spread here.tokens l w here.levels) here.loaded.language.now here.production here.bytes here.at ks here.count here.operands here.within here.i here.to
