use Rattle.std.proofs.Common.{rules, ◌≡◌, Err}
use Rattle.tree_reader.specs.Inner.Positions.{refusal_of}
use Rattle.run_operation.proofs.Laws.{tree_refused}
use Rattle.run_operation.proofs.run.run_over.Goals as goal

pub returns-in_err-figures : goal.returns-in_err-figures
returns-in_err-figures g c = λ t f z has.
    let r : c.from_residual.result ≡ Err (refusal_of c.in_err-figures.field-0.0) = search rules in
    rw r (tree_refused z c.top_over-top.result _ c.measure_given.new.ends has _ (rw c.in_err-figures.was at (c.measure_given.ensures t f z)))

pub returns : goal.returns
returns g c = λ t f z has. c.finish.ensures t f _ z has c.top_over-top.ensures.0 c.top_over-top.ensures.1 (rw c.in_ok-figures.was at (c.measure_given.ensures t f z))
