use Prim.Native.Nat.{ℕ}
use mathlib.Core.Path.{ap, ◌∙◌}
use lib.ListN.{length, replicate, length-replicate}
use Rattle.search_operation.proofs.Wrapping.{blank_all}
use Rattle.search_operation.proofs.search.find_over.Goals as goal

pub find_in-outcome-requires : goal.find_in-outcome-requires
find_in-outcome-requires c = (c.requires.0, c.requires.1, blank_all (length c.args.workspace.now) c.clear.ensures, c.requires.2)

pub returns : goal.returns
returns c = (c.clear-2.ensures ∙ ap (λ (n : ℕ). replicate n 0) (c.find_in-outcome.ensures.0 ∙ (ap length c.clear.ensures ∙ length-replicate {A = ℕ} (length c.args.workspace.now) 0)), c.find_in-outcome.ensures.1)
