use Rattle.reduce_operators.proofs.SameItem.{kind_stored}
use Rattle.reduce_operators.proofs.identity.put_kind.Goals as goal

pub returns : goal.returns
returns c = λ l e. kind_stored l _ _ e _ _ _ _ c.put_if.ensures
