use Prim.Native.Nat.{◌+◌, ◌*◌}
use mathlib.Core.List.{List}
use lib.ListN.{length}
use Rattle.format_language.specs.Language.{Language}
use Rattle.tree_reader.specs.Code.{node, Codes}
use Rattle.tree_reader.specs.Typing.{Uses}
use Rattle.score_tree.specs.Linear.{Loads}
use Rattle.score_tree.specs.Inner.Terms.{all_bytes, NodeAsks}
use Rattle.score_tree.proofs.Walking.{Walking}
use Prim.Native.Nat.{ℕ}
use Rattle.score_tree.proofs.form.+form_at_form_node.Given as goal

abbrev pub decreases-form_at : goal.decreases-form_at
decreases-form_at l = 2 * l.left

abbrev pub decreases-form_node : goal.decreases-form_node
decreases-form_node l = 2 * l.left + 1

abbrev pub invariant-form_node-loop-q : goal.invariant-form_node-loop-q
invariant-form_node-loop-q here = (l : Language) (given : Uses) (w : Loads) (k p : ℕ) (ts : Codes) (ks : List ℕ) → NodeAsks here.loaded here.production here.bytes here.at here.left l given w k p ts ks
    → Walking here.loaded.language.now here.loaded.figures.now here.bytes l given w (node k p ts) ts here.stop (here.at + length (all_bytes ts)) here.left here.count here.row here.q here.to
