use Prim.Native.Nat.{◌+◌}
use mathlib.Core.Path.{refl}
use native.Mathlib.Omega.{arith}
use lib.Seq.{get_or-set_same}
use Rattle.run_single.proofs.Laws.{weigh_is, total_is}
use Rattle.run_single.proofs.walk.SingleWeigher.weigh.Goals as goal

pub returns-clause-is : goal.returns-clause-is
returns-clause-is c =
    rw (c.requires.0.0, c.requires.0.1) (weigh_is c.args.counts.now c.args.q c.args.weights.now _ _ (omega (arith, c.requires.0.1)) refl c.count_in.ensures.0 c.add_share-part.ensures)

pub returns-clause-sums : goal.returns-clause-sums
returns-clause-sums c =
    rw c.requires.0.1 (total_is _ _ _ (get_or-set_same c.args.weights.now (c.args.from + 1) c.add_share-part.result 0 (omega (arith, c.requires.0.1))) (omega arith))
