use Prim.Native.Nat.{◌+◌, ◌*◌, ◌≤◌}
use mathlib.Core.Path.{◌≡◌}
use lib.ListN.{length, drop}
use lib.Seq.{slice}
use Rattle.format_language.specs.Language.{Language}
use Rattle.tree_reader.specs.Inner.Index.{Indexed}
use Rattle.tree_reader.specs.Inner.Positions.{KindsIn}
use Rattle.tree_locate.specs.Faults.{stop_all, stop}
use Rattle.tree_locate.proofs.walk.+walk_row_walk_tree.Given as goal

abbrev pub decreases-walk_row : goal.decreases-walk_row
decreases-walk_row l = 2 * l.levels + 1

abbrev pub decreases-walk_tree : goal.decreases-walk_tree
decreases-walk_tree l = 2 * l.levels

abbrev pub invariant-walk_row-loop-q : goal.invariant-walk_row-loop-q
invariant-walk_row-loop-q here = (here.to ≤ length here.tree) × KindsIn here.language here.q here.last × ((l : Language) → Indexed here.index here.language l → stop_all (stop l here.levels) (slice here.q here.last here.language) (drop here.to here.tree) ≡ stop_all (stop l here.levels) (slice here.first here.last here.language) (drop here.at here.tree))
