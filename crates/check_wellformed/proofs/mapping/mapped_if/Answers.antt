use Rattle.check_wellformed.proofs.Mappings.{marked_if}
use Rattle.check_wellformed.proofs.mapping.mapped_if.Goals as goal

pub returns : goal.returns
returns c = marked_if _ _ _
