use mathlib.Core.Path.{ap, ◌∙◌}
use Rattle.outcome.specs.Outcome.{number_of, length_of}
use Rattle.tree_block.proofs.Answers.{tells}
use Rattle.algebra.proofs.algebra_block.Goals as goal

pub returns : goal.returns
returns c = tells _ _ _ _ _ _ c.place-placed.ensures _ _ (c.hand_over.ensures.0 ∙ ap number_of c.from.ensures) (c.hand_over.ensures.1 ∙ ap length_of c.from.ensures)
