use Rattle.check_wellformed.proofs.Kept.{ready_cut}
use Rattle.check_wellformed.proofs.check.check_parted.Goals as goal

pub check_conditions-requires : goal.check_conditions-requires
check_conditions-requires c = (_, ready_cut _ _ c.args.indexes.now _ _ _ c.requires.1.1)

pub returns : goal.returns
returns c = λ f z. c.check_conditions.ensures f (ready_cut _ _ c.args.indexes.now _ _ f z)
