use Prim.Native.Nat.{◌-◌, ◌≤◌}
use lib.ListN.{length}
use Rattle.format_language.specs.Language.{Language}
use Rattle.tree_reader.specs.Code.{Codes}
use Rattle.tree_index.specs.Inner.Lying.{Row}
use Rattle.tree_index.proofs.Comparing.{Comparing}
use Rattle.tree_index.proofs.compare.+compare_row.Given as goal

abbrev pub decreases-compare_row : goal.decreases-compare_row
decreases-compare_row l = l.levels

abbrev pub invariant-loop-q : goal.invariant-loop-q
invariant-loop-q l =
    (l.m ≤ length l.index)
    × ((g : Language) (ts : Codes) → Row l.places l.language l.tree l.fn.operands.start l.fn.operands.first l.fn.operands.last g ts
    → Comparing l.places l.language l.tree l.index l.n l.fn.operands.start ts l.stop l.q l.end l.to l.m g)

abbrev pub decreases-loop-q : goal.decreases-loop-q
decreases-loop-q l = length l.tree - l.to
