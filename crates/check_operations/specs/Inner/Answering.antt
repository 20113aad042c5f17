-- What an operation that writes bytes answers and leaves.
use Rattle.std.specs.Prelude.{ℕ, ◌≡◌, List}
use Rattle.outcome.specs.Outcome.{Result, written, output_after, Outcome}

-- The outcome, and the output that is left, are those of a result.
abbrev pub Gives : Result (List ℕ) → List ℕ → List ℕ → Outcome → Type 0
Gives result before after outcome = (outcome ≡ written result) × (after ≡ output_after before result)
