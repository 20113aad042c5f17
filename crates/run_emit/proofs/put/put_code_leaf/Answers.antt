use native.Mathlib.Omega.{arith}
use mathlib.Core.Path.{refl}
use Rattle.run_emit.proofs.Puts.{code_leaf_room, code_leaf_three, leaf_token, leaf_use}
use Rattle.run_emit.proofs.put.put_code_leaf.Goals as goal

pub bounds-input-at : goal.bounds-input-at
bounds-input-at c = omega (arith, code_leaf_room _ _ c.requires.0)

pub bounds-input-at-then-input-at-eq2 : goal.bounds-input-at-then-input-at-eq2
bounds-input-at-then-input-at-eq2 c = code_leaf_room _ _ c.requires.0

pub bounds-input-at-then-input-at-eq2-2 : goal.bounds-input-at-then-input-at-eq2-2
bounds-input-at-then-input-at-eq2-2 c = code_leaf_three _ _ c.requires.0 (λ z. omega (arith, c.if-input-at-eq2.true))

pub returns-then-input-at-eq2 : goal.returns-then-input-at-eq2
returns-then-input-at-eq2 c = leaf_token _ _ _ _ _ c.if-input-at-eq2.true c.put.ensures

pub bounds-input-at-2 : goal.bounds-input-at-2
bounds-input-at-2 c = code_leaf_room _ _ c.requires.0

pub returns : goal.returns
returns c = leaf_use _ _ _ _ _ c.if-input-at-eq2.false c.leaf_number.ensures.0 refl c.put_use.ensures
