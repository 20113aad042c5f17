use native.Mathlib.Omega.{arith}
use Rattle.run_emit.proofs.Puts.{code_leaf_room, code_leaf_three}
use Rattle.run_emit.proofs.Skips.{number_there, number_none}
use Rattle.run_emit.proofs.skip.leaf_number.Goals as goal

pub bounds-input-at : goal.bounds-input-at
bounds-input-at c = omega (arith, code_leaf_room _ _ c.requires)

pub bounds-input-at-then-input-at-eq4 : goal.bounds-input-at-then-input-at-eq4
bounds-input-at-then-input-at-eq4 c = code_leaf_three _ _ c.requires (λ z. omega (arith, c.if-input-at-eq4.true))

pub returns-then-input-at-eq4 : goal.returns-then-input-at-eq4
returns-then-input-at-eq4 c = (number_there _ _ c.if-input-at-eq4.true c.from.ensures, omega arith)

pub returns : goal.returns
returns c = (number_none _ _ c.if-input-at-eq4.false, omega arith)
