use native.Mathlib.Omega.{arith}
use Rattle.run_emit.proofs.Rows.{name_inside, numbered_asks, started_zero, started_other}
use Rattle.run_emit.proofs.run.start_node.Goals as goal

pub bounds-reading-p : goal.bounds-reading-p
bounds-reading-p c = omega (arith, name_inside c.requires.2.3, c.sign_length.ensures.0)

pub returns-then-number-eq0 : goal.returns-then-number-eq0
returns-then-number-eq0 c = λ f given u a. started_zero a c.sign_length.ensures.0 c.from-name.ensures (omega arith) c.index_at.ensures.0 c.requires.0 c.number_at-number.ensures c.if-number-eq0.true c.clause_at.ensures.0

pub numbered_start-requires : goal.numbered_start-requires
numbered_start-requires c = (c.requires.2.3.term.kind, (omega arith), numbered_asks c.requires.2.3 c.sign_length.ensures.0 c.from-name.ensures (omega arith) c.number_at-number.ensures c.if-number-eq0.false)

pub returns : goal.returns
returns c = λ f given u a. started_other a c.sign_length.ensures.0 c.from-name.ensures (omega arith) c.index_at.ensures.0 c.requires.0 c.number_at-number.ensures c.numbered_start.ensures
