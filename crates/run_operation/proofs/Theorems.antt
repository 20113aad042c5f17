-- A run reports at most the number of productions in its tree, where no clause uses an argument twice.
use Prim.Native.Nat.{ℕ, ◌≤◌}
use native.Mathlib.Omega.{arith}
use Rattle.outcome.specs.Outcome.{Result, value, refused, ◌>>=◌}
use Rattle.format_translation.specs.Running.{clauses_of}
use Rattle.format_translation.specs.Operations.{run_bytes}
use Rattle.run_measure.specs.Cost.{cost}
use Rattle.run_measure.proofs.Bound.{cost_bound}
use Rattle.run_operation.specs.Operations.{reported, clauses_applied, run_cost}
use Rattle.run_operation.specs.Laws.{RunCostBound}

-- What is reported is no more than the count, whether or not the run is refused.
reported_most : {A : Type 0} (x : Result A) (n : ℕ) → reported (x >>= λ a. value n) ≤ n
reported_most (value a) n = omega arith
reported_most (refused r) n = omega arith

pub run_cost_bound : RunCostBound
unfolding run_cost clauses_applied
run_cost_bound s b root j room f t e i once =
    let x = reported_most (run_bytes s root j b room) (cost (clauses_of f) j t) in
    let y = cost_bound (clauses_of f) once j t in
    rw (e, i) (omega arith)
