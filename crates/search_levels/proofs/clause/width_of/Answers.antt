use Rattle.search_levels.proofs.Steps.{width_token, width_other}
use native.Mathlib.Omega.{arith}
use Rattle.search_levels.proofs.clause.width_of.Goals as goal

pub returns-then-sign-eq-TOKEN : goal.returns-then-sign-eq-TOKEN
returns-then-sign-eq-TOKEN c = (width_token _ c.if-sign-eq-TOKEN.true, omega arith, omega arith)

pub returns-else-sign-eq-TOKEN : goal.returns-else-sign-eq-TOKEN
returns-else-sign-eq-TOKEN c = (width_other _ c.if-sign-eq-TOKEN.false, omega arith, omega arith)
