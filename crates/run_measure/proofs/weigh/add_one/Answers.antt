use mathlib.Core.Path.{refl}
use native.Mathlib.Omega.{arith}
use Rattle.run_measure.proofs.Windows.{one_adds}
use Rattle.run_measure.proofs.weigh.add_one.Goals as goal

pub returns : goal.returns
returns c = (omega (arith, c.add_share-2.ensures), one_adds _ _ _ _ _ _ _ c.requires.0 c.requires.5 c.requires.1 c.if-width-to.false refl c.weight_of-weight.ensures c.add_share.ensures c.add_share-2.ensures)
