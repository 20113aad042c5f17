use native.Mathlib.Omega.{arith}
use Rattle.run_measure.proofs.Windows.{begin_out, begun}
use Rattle.run_measure.proofs.weigh.begin.Goals as goal

pub returns-then-width-at-clause-sums : goal.returns-then-width-at-clause-sums
returns-then-width-at-clause-sums c = begin_out _ c.args.number _ _ c.requires.2

pub returns : goal.returns
returns c =
    let z = begun c.args.weights.now c.args.number _ _ c.requires.2 c.requires.1 c.requires.0 c.from-at.ensures (omega arith) c.add.ensures in
    record { kept = z.0; is = z.1.0; sums = z.1.1.0; none = z.1.1.1 }
