use mathlib.Core.Path.{refl}
use Rattle.run_single.proofs.Laws.{own_is, capped_part}
use Rattle.run_single.proofs.walk.SingleWeigher.add_own.Goals as goal

pub returns : goal.returns
returns c = rw (c.requires.0.0, c.requires.0.1, ← own_is c.args.weights.now c.args.from c.args.top refl c.args.counts.now c.args.q c.count_in.ensures.0) (capped_part _ _ _ c.add_share.ensures)
