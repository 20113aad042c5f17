-- The cost that a run reports (paper 02, 2026-02).
use Rattle.std.specs.Prelude.{ℕ, min, List}
use Rattle.outcome.specs.Outcome.{Result, value, refused, ◌>>=◌}
use Rattle.tree_reader.specs.Operations.{tree_of}
use Rattle.format_translation.specs.Running.{clauses_of}
use Rattle.format_translation.specs.TranslationFile.{translation_of}
use Rattle.format_translation.specs.Operations.{run_bytes}
use Rattle.run_measure.specs.Cost.{cost}

-- The largest cost that is reported.
abbrev pub largest_cost : ℕ
largest_cost = 4294967295

-- How many clauses a run applies, however many they are. A run that is refused, by 17 too, has no count.
unfoldable pub clauses_applied : List ℕ → (root number : ℕ) → List ℕ → ℕ → Result ℕ
clauses_applied translation root number bytes room =
    run_bytes translation root number bytes room >>= λ result.
    translation_of translation >>= λ f.
    tree_of f.source root bytes >>= λ t.
    value (cost (clauses_of f) number t)

-- What is reported: the count or, where that is larger, the largest cost; 0 where the run is refused.
abbrev pub reported : Result ℕ → ℕ
reported (value count) = min count largest_cost
reported (refused r) = 0

-- The cost of a run by a number of a tree of kind root, into an output of so many bytes.
unfoldable pub run_cost : List ℕ → (root number : ℕ) → List ℕ → ℕ → ℕ
run_cost translation root number bytes room = reported (clauses_applied translation root number bytes room)
