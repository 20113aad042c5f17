-- The operation that tells what stands at a path: a law for each return.
use Prim.Native.Nat.{ℕ}
use mathlib.Core.Path.{◌≡◌, sym, ap, ◌∙◌}
use mathlib.Core.List.{List}
use Rattle.std.specs.Prelude.{Err, Ok}
use Rattle.std.specs.Prelude.{Result as Answered}
use Rattle.outcome.specs.Outcome.{number_of, Outcome}
use Rattle.outcome.specs.declared.Reason.{Reason}
use Rattle.tree_index.specs.Operations.{check_indexed}
use Rattle.tree_index.proofs.Owning.{refused_own}
use Rattle.tree_block.specs.Blocks.{block_of, block_at, every_kind}
use Rattle.tree_block.specs.Operations.{found, find_block}
use Rattle.tree_block.proofs.Answers.{owned}
use Rattle.tree_node.specs.Operations.{NodeShown, node_shown, show_node}
use Rattle.tree_node.specs.Answers.{Finds, Says, NodeTold}
use Rattle.tree_node.specs.declared.node.Described.{Described}
use Rattle.tree_node.specs.declared.node.Description.{Description}

-- describe
module _ (s : List ℕ) (root : ℕ) (b i : List ℕ) {o : Outcome} (eo : o ≡ check_indexed s root b i) (path : List ℕ) where
  pub describe_refused : {x : Reason} → o ≡ Err x → Finds (show_node s root b i path) (Err x)
  unfolding show_node find_block
  describe_refused q = ap node_shown (refused_own s root b i (λ l t. found (block_at every_kind l path (block_of 0 root t))) (sym eo ∙ q))

  pub describe_found : {n : ℕ} (accepted : o ≡ Ok n) (p : Answered Description Reason)
      → Finds (node_shown (found (block_at every_kind (owned s root b i eo accepted).language path (block_of 0 root (owned s root b i eo accepted).subject)))) p
      → Finds (show_node s root b i path) p
  unfolding show_node find_block
  describe_found accepted p w = let c = owned s root b i eo accepted in rw (c.by.is, c.by.indexed_is) w

-- The same, told by numbers.
pub node_told : {d : NodeShown} {r : Described} → Says d r → (n : ℕ) → n ≡ number_of r.outcome → NodeTold d n r.kind r.name r.arguments
node_told w n e = record { number_is = e ∙ ap number_of w.outcome; kind_is = w.kind; name_is = w.name; arguments_is = w.arguments }
