use native.Mathlib.Omega.{arith}
use Rattle.format_translation.proofs.Clauses.{start_with, start_without}
use Rattle.format_translation.proofs.clause.code_start.Goals as goal

pub returns-then-body-p-eq-NUMBERED_CLAUSE : goal.returns-then-body-p-eq-NUMBERED_CLAUSE
returns-then-body-p-eq-NUMBERED_CLAUSE c = (start_with _ _ c.if-body-p-eq-NUMBERED_CLAUSE.true, omega arith)

pub returns : goal.returns
returns c = (start_without _ _ c.if-body-p-eq-NUMBERED_CLAUSE.false, omega arith)
