-- What is handed back of the node at a path.
use Rattle.std.specs.Prelude.{ℕ, ◌≡◌, Option, Some, None, Ok, Err}
use Rattle.std.specs.Prelude.{Result as Answered}
use Rattle.outcome.specs.Outcome.{refused, number_of}
use Rattle.outcome.specs.declared.Reason.{Reason}
use Rattle.tree_node.specs.Nodes.{no_name}
use Rattle.tree_node.specs.Operations.{NodeShown, node_shown}
use Rattle.tree_node.specs.declared.node.Described.{Described}
use Rattle.tree_node.specs.declared.node.Description.{Description}

-- The answer says what is shown.
pub record Says (d : NodeShown) (r : Described) : Type 0 where
  pub outcome : r.outcome ≡ d.outcome
  pub kind : r.kind ≡ d.kind
  pub name : r.name ≡ d.name
  pub arguments : r.arguments ≡ d.arguments

-- The same, told by numbers.
pub record NodeTold (d : NodeShown) (number kind name arguments : ℕ) : Type 0 where
  pub number_is : number ≡ number_of d.outcome
  pub kind_is : kind ≡ d.kind
  pub name_is : name ≡ d.name
  pub arguments_is : arguments ≡ d.arguments

-- A name as a number, where there is one.
abbrev pub name_number : Option ℕ → ℕ
name_number (Some p) = p
name_number None = no_name

-- A node that is shown, and what it is.
pub record Describes (d : NodeShown) (r : Description) : Type 0 where
  pub outcome : d.outcome ≡ Ok 0
  pub kind : r.kind ≡ d.kind
  pub name : name_number r.name ≡ d.name
  pub arguments : r.arguments ≡ d.arguments

-- What is shown is found: the node, or the refusal.
abbrev pub Finds : NodeShown → Answered Description Reason → Type 0
Finds d (Ok r) = Describes d r
Finds d (Err e) = d ≡ node_shown (refused e)
