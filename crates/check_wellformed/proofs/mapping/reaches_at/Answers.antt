use Rattle.check_wellformed.proofs.Mappings.{reaches_not, reaches_both}
use Rattle.check_wellformed.proofs.mapping.reaches_at.Goals as goal

pub returns-then-not-marked-from : goal.returns-then-not-marked-from
returns-then-not-marked-from c = reaches_not _ _ _ _ _ c.from.ensures (c.if-not-marked-from.true)

pub returns : goal.returns
returns c = reaches_both _ _ _ _ _ c.from.ensures (c.if-not-marked-from.false) _ c.requires.1 _ c.from-2.ensures
