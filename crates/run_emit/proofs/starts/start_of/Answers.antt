use Rattle.run_emit.proofs.Rows.{start_known}
use Rattle.run_emit.proofs.starts.start_of.Goals as goal

pub returns-in-Some : goal.returns-in-Some
returns-in-Some c = λ f given ts ks a. start_known a c.in-Some.ensures
