use Rattle.reduce_join.proofs.Joined.{length_accepted, length_refused}
use Rattle.reduce_join.proofs.join.checked_length.Goals as goal

pub returns-in-Ok : goal.returns-in-Ok
returns-in-Ok c = length_accepted _ _ _ c.check_translation.ensures c.in-Ok.is

pub returns-in-Err : goal.returns-in-Err
returns-in-Err c = length_refused _ _ _ c.check_translation.ensures c.in-Err.is
