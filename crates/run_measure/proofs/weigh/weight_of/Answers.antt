use mathlib.Core.Path.{sym}
use Rattle.run_measure.proofs.Windows.{window_out, window_in}
use Rattle.run_measure.proofs.weigh.weight_of.Goals as goal

pub returns-then-width-number : goal.returns-then-width-number
returns-then-width-number c = sym (window_out _ _ _ _ c.if-width-number.true)

pub returns : goal.returns
returns c = sym (window_in _ _ _ _ c.if-width-number.false)
