use native.Mathlib.Omega.{arith}
use Rattle.check_wellformed.proofs.Coded.{put_none, put_empty, put_inside, never_full, put_behind}
use Rattle.check_wellformed.proofs.codes.put_arguments.Goals as goal

pub returns-in_default : goal.returns-in_default
returns-in_default c = put_none _ _ _ c.requires.0.1 (λ i. omega (arith, c.type_inv.source i)) _ _ c.requires.1.2 c.requires.1.3 _ c.requires.1.4 c.place_of.ensures c.in_default.is _ c.requires.2

pub returns-then-arguments : goal.returns-then-arguments
returns-then-arguments c = put_empty _ _ _ c.requires.0.1 (λ i. omega (arith, c.type_inv.source i)) _ _ c.requires.1.2 c.requires.1.3 _ c.requires.1.4 c.place_of.ensures _ c.in-Some.is _ _ c.operands_of-arguments.ensures.0 c.operands_of-arguments.ensures.1 c.if-arguments.true _ c.requires.2

pub put-requires : goal.put-requires
put-requires c = (put_inside _ _ _ c.requires.0.1 (λ i. omega (arith, c.type_inv.source i)) _ _ c.requires.1.2 c.requires.1.3 _ c.requires.1.4 c.place_of.ensures _ c.in-Some.is _ _ c.operands_of-arguments.ensures.0 c.operands_of-arguments.ensures.1 c.if-arguments.false, omega (arith, c.requires.2))

pub unwrap-requires : goal.unwrap-requires
unwrap-requires c = never_full _ _ _ c.requires.0.1 (λ i. omega (arith, c.type_inv.source i)) _ _ c.requires.1.2 c.requires.1.3 _ c.requires.1.4 c.place_of.ensures _ c.in-Some.is _ _ c.operands_of-arguments.ensures.0 c.operands_of-arguments.ensures.1 c.args.uses.now c.requires.2 c.put.ensures

pub returns : goal.returns
returns c = put_behind _ _ _ c.requires.0.1 (λ i. omega (arith, c.type_inv.source i)) _ _ c.requires.1.2 c.requires.1.3 _ c.requires.1.4 c.place_of.ensures _ c.in-Some.is _ _ c.operands_of-arguments.ensures.0 c.operands_of-arguments.ensures.1 _ _ _ c.requires.2 (c.put.ensures.done _ c.unwrap.ensures)
