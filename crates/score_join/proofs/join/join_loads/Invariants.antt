use Prim.Native.Nat.{◌-◌}
use mathlib.Core.Path.{◌≡◌}
use lib.ListN.{length}
use Rattle.format_translation.specs.Translation.{Translation}
use Rattle.score_tree.specs.Linear.{Loads}
use Rattle.score_join.specs.Inner.Loading.{Parts}
use Rattle.score_join.proofs.Joins.{Joins}
use Rattle.score_join.proofs.join.join_loads.Given as goal

abbrev pub invariant-loop-p : goal.invariant-loop-p
invariant-loop-p l = (length l.joined ≡ length l.initial.joined) × ((f : Translation) (w : Loads) → Parts l.held f w → Joins l.held.source.now f w l.initial.joined l.joined l.p l.n)

abbrev pub decreases-loop-p : goal.decreases-loop-p
decreases-loop-p l = length l.source - l.p
