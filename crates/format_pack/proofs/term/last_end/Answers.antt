use mathlib.Core.Path.{◌∙◌}
use Rattle.format_pack.proofs.Readings.{last_number, last_none}
use Rattle.format_pack.proofs.term.last_end.Goals as goal

pub returns-then-sign-eq-MAKE-clause-is : goal.returns-then-sign-eq-MAKE-clause-is
returns-then-sign-eq-MAKE-clause-is c = c.number_end.ensures.is ∙ last_number _ _ _ c.if-sign-eq-MAKE.true

pub returns-clause-is : goal.returns-clause-is
returns-clause-is c = last_none _ _ _ c.if-sign-eq-MAKE.false
