use Rattle.run_measure.proofs.Counts.{width_start, width_done, width_next}
use native.Mathlib.Omega.{arith}
use Rattle.run_measure.proofs.count.width_of.Goals as goal

pub loop-p-init : goal.loop-p-init
loop-p-init c = (width_start _, omega arith, omega arith)

pub loop-p-preserved : goal.loop-p-preserved
loop-p-preserved c = (width_next c.args.body.now _ _ _ c.loop-p.invariant.0 c.loop-p-test.true c.field_end-p.ensures.is c.wider-width.ensures.0, omega (arith, c.loop-p.invariant.1, c.wider-width.ensures.1), c.wider-width.ensures.2)

pub returns : goal.returns
returns c = (width_done c.args.body.now _ _ _ c.loop-p.invariant.0 c.loop-p-test.false, c.loop-p.invariant.1, c.loop-p.invariant.2)
