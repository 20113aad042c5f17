-- What the walk answers, against where reading stops.
use Rattle.std.specs.Prelude.{ℕ, ◌≤◌, ◌≡◌, List, length, drop, Result, Ok, Err, IfOk, unwrap_or}
use Rattle.outcome.specs.Outcome.{checked}
use Rattle.tree_reader.specs.Code.{Code}
use Rattle.tree_reader.specs.Syntax.{Read}
use Rattle.tree_reader.specs.Operations.{whole_tree}
use Rattle.tree_locate.specs.Faults.{Stop, passes, ends, unfit, deep}
use Rattle.tree_locate.specs.Operations.{Located, position_of, stop_position}
use Rattle.tree_locate.specs.declared.locate.Stopped.{Stopped}

-- Past a tree, with what is left; or stopped at a position.
pub data Place : Type 0 where
  past : List ℕ → Place
  stopped : ℕ → Place

-- A stop in the input.
unfoldable pub place_of : (input : List ℕ) → Stop → Place
place_of input (passes s) = past s
place_of input ends = stopped (length input)
place_of input (unfit s) = stopped (position_of input s)
place_of input (deep s) = stopped (position_of input s)

-- What the walk answers: the position behind what was read, or the one where reading stops.
abbrev pub Walk : Type 0
Walk = Result ℕ ℕ

-- What it says.
unfoldable pub place_at : (input : List ℕ) → Walk → Place
place_at input (Ok e) = past (drop e input)
place_at input (Err p) = stopped p

-- A position that the walk went past lies in the input.
abbrev pub WalkIn : ℕ → Walk → Type 0
WalkIn n w = IfOk w (λ e. e ≤ n)

-- Reading stops before the end of the tree.
abbrev pub NotPast : Stop → Type 0
NotPast o = (s : List ℕ) → o ≡ passes s → ⊥

-- What the operation answers, as an outsider sees it.
abbrev pub located : Result Unit Stopped → Located
located (Ok u) = record { outcome = Ok 0; position = 0 }
located (Err s) = record { outcome = Err s.reason; position = unwrap_or s.position 0 }

-- The answer of the check of what was read, and where reading stopped.
pub record Answers (input : List ℕ) (o : Read Code) (s : Stop) (r : Located) : Type 0 where
  pub outcome : r.outcome ≡ checked (whole_tree o)
  pub position : r.position ≡ stop_position input s
