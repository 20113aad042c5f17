use Prim.Native.Nat.{◌+◌}
use mathlib.Core.Path.{◌≡◌}
use lib.ListN.{length}
use Rattle.format_language.specs.Language.{Language}
use Rattle.tree_reader.specs.Code.{Codes, levels_all}
use Rattle.tree_reader.specs.Syntax.{write_all, tree as inTrees}
use Rattle.tree_index.specs.Inner.Lying.{Row}
use Rattle.search_levels.proofs.Filling.{Filling}
use Rattle.search_levels.proofs.ends.+keep_ends.Given as goal

abbrev pub decreases-keep_ends : goal.decreases-keep_ends
decreases-keep_ends l = l.levels

abbrev pub invariant-loop-q : goal.invariant-loop-q
invariant-loop-q here = (length here.memory ≡ length here.initial.memory) × ((l : Language) (ts : Codes) → Row here.places here.language here.tree here.fn.operands.start here.fn.operands.first here.fn.operands.last l ts → Filling here.places here.language here.tree here.initial.memory here.memory (here.fn.operands.start + length (write_all inTrees ts)) (levels_all ts) here.q here.fn.operands.last here.to l)
