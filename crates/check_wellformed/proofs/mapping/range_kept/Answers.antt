use Rattle.check_wellformed.proofs.Mappings.{range_free, range_none, range_there}
use Rattle.check_wellformed.proofs.mapping.range_kept.Goals as goal

pub returns-in_default : goal.returns-in_default
returns-in_default c = range_free _ _ _ _ c.in_default.is

pub returns-in_default-goal : goal.returns-in_default-goal
returns-in_default-goal c = range_none _ _ _ _ c.in-Some.is c.in_default-goal.is

pub returns : goal.returns
returns c = range_there _ _ _ _ c.in-Some.is c.in-Some-goal.is c.range_within.ensures
