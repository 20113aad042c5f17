use mathlib.Core.Path.{refl}
use Rattle.reduce_merge.proofs.Writing.{writing_full, writing_next}
use Rattle.reduce_operators.proofs.Given.{assembling, body_last}
use Rattle.reduce_operators.proofs.assemble.put_parts.Goals as goal

pub returns-in_err-n : goal.returns-in_err-n
returns-in_err-n c = rw c.from_residual.ensures (writing_full _ _ _ _ _ _ (assembling _ _ _ _) _ _ refl _ _ c.put_field.ensures c.in_err-n.was)

pub returns-in_err-n-2 : goal.returns-in_err-n-2
returns-in_err-n-2 c =
    let h = writing_next _ _ _ _ _ _ (assembling _ _ c.args.parts.body.now _) _ _ refl _ _ c.put_field.ensures _ c.in_ok-n.was c.put_field.auto.out in
    rw c.from_residual-in_err-n-2.ensures (writing_full _ _ _ _ _ _ h _ _ refl _ _ c.put_field-2.ensures c.in_err-n-2.was)

pub returns : goal.returns
returns c =
    let h = writing_next _ _ _ _ _ _ (assembling _ _ c.args.parts.body.now _) _ _ refl _ _ c.put_field.ensures _ c.in_ok-n.was c.put_field.auto.out in
    body_last _ _ _ _ _ _ _ (writing_next _ _ _ _ _ _ h _ _ refl _ _ c.put_field-2.ensures _ c.in_ok-n-2.was c.put_field-2.auto.out) _ c.put.ensures
