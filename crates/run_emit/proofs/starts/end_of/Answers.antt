use Rattle.run_emit.proofs.Ends.{end_kept}
use Rattle.run_emit.proofs.starts.end_of.Goals as goal

pub returns-in-Some : goal.returns-in-Some
returns-in-Some c = λ f given u k a right. end_kept a right c.source_at.ensures.0 c.in-Some.ensures
