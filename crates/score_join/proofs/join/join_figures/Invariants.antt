use mathlib.Core.Path.{◌≡◌}
use lib.ListN.{length}
use Rattle.format_language.specs.Language.{Language}
use Rattle.tree_reader.specs.Code.{Code}
use Rattle.tree_reader.specs.Typing.{Uses}
use Rattle.score_tree.specs.Linear.{Loads}
use Rattle.score_tree.specs.Inner.Terms.{TermAsks}
use Rattle.score_join.proofs.Joins.{Figuring}
use Rattle.score_join.proofs.join.join_figures.Given as goal

abbrev pub invariant-loop-z : goal.invariant-loop-z
invariant-loop-z here = (length here.joined ≡ length here.initial.joined)
    × ((l : Language) (given : Uses) (w : Loads) (u : Code) → TermAsks here.target here.body here.kind here.at 16 l given w u → Figuring w u here.count here.initial.joined here.joined here.pos here.to here.z-index)
