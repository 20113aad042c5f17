use mathlib.Core.Path.{◌≡◌}
use lib.ListN.{length}
use Rattle.format_language.specs.Language.{Language}
use Rattle.tree_reader.specs.Code.{Codes}
use Rattle.tree_index.specs.Inner.Lying.{Row}
use Rattle.tree_index.proofs.Walking.{Walking}
use Rattle.tree_index.proofs.walk.+write_row.Given as goal

abbrev pub decreases-write_row : goal.decreases-write_row
decreases-write_row l = l.levels

abbrev pub invariant-loop-q : goal.invariant-loop-q
invariant-loop-q l =
    (length l.out ≡ length l.initial.out)
    × ((g : Language) (ts : Codes) → Row l.places l.language l.tree l.fn.operands.start l.fn.operands.first l.fn.operands.last g ts
    → Walking l.places l.language l.tree l.base l.initial.out l.out l.n l.fn.operands.start ts l.q l.fn.operands.last l.to l.m g)
