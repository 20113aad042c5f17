use Rattle.run_emit.proofs.Rows.{used_root, used_zero, used_behind}
use Rattle.run_emit.proofs.run.number_at.Goals as goal

pub returns-in-Root : goal.returns-in-Root
returns-in-Root c = used_root _ c.in-Root.is

pub returns-in-At : goal.returns-in-At
returns-in-At c = used_zero _ c.in-At.is c.body_at.ensures.0 c.if-body_at-eq3.true

pub returns-in-At-2 : goal.returns-in-At-2
returns-in-At-2 c = used_behind _ c.in-At.is c.in-At-2.is c.body_at.ensures.0 c.if-body_at-eq3.false c.body_at-in-At-2.ensures.0
