use Rattle.run_emit.proofs.Rows.{last_known, last_found}
use Rattle.run_emit.proofs.starts.last_end.Goals as goal

pub returns-in-Some : goal.returns-in-Some
returns-in-Some c = λ f given ts ks a. last_known a c.source_at-n.ensures.0 c.in-Some.ensures

pub returns-in-None : goal.returns-in-None
returns-in-None c = λ f given ts ks a. last_found a c.source_at-n.ensures.0 c.find.ensures
