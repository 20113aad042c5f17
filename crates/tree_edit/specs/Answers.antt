-- What the edit hands back (paper 02, 2026-08: "hands back plan and index, each with its length").
use Rattle.std.specs.Prelude.{ℕ, ◌≡◌, List}
use Rattle.outcome.specs.Outcome.{number_of, length_of}
use Rattle.tree_edit.specs.Operations.{Editing}
use Rattle.tree_edit.specs.declared.edit.Edited.{Edited}

-- The answer, and the outputs that are left, are those of the definition.
pub record Hands (d : Editing) (plan index : List ℕ) (r : Edited) : Type 0 where
  pub outcome : r.outcome ≡ d.outcome
  pub long : r.indexed ≡ d.index_length
  pub plan_is : plan ≡ d.plan
  pub index_is : index ≡ d.index

-- The same, told by numbers.
pub record EditTold (d : Editing) (number plan_length index_length : ℕ) (plan index : List ℕ) : Type 0 where
  pub number_is : number ≡ number_of d.outcome
  pub plan_long : plan_length ≡ length_of d.outcome
  pub index_long : index_length ≡ d.index_length
  pub plan_is : plan ≡ d.plan
  pub index_is : index ≡ d.index
