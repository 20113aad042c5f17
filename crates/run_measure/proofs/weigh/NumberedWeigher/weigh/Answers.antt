use native.Mathlib.Omega.{arith}
use Rattle.run_measure.proofs.Windows.{none_under, one_under, weigh_kept, weigh_is, weigh_sums, weigh_none}
use Rattle.run_measure.proofs.weigh.NumberedWeigher.weigh.Goals as goal

pub add_one-total-requires : goal.add_one-total-requires
add_one-total-requires c = (c.requires.3, c.requires.4, c.count_in.ensures.1, omega arith, omega arith, none_under c.args.counts.now c.args.entries.now c.args.q c.args.weights.now c.args.weights.now c.args.weights.now c.args.from c.args.width c.args.top c.requires.2 c.requires.3 (λ m l. c.requires.5 _ (omega arith)))

pub add_entries-requires : goal.add_entries-requires
add_entries-requires c = (c.requires.3, omega (arith, c.requires.4, c.add_one-total.ensures.1.kept.long), c.add_one-total.ensures.0, one_under c.args.counts.now c.args.entries.now c.args.q c.args.weights.now _ c.args.weights.now c.args.from c.args.width c.args.top c.requires.2 c.requires.3 (λ m l. c.requires.5 _ (omega arith)) c.count_in.ensures.0 c.add_one-total.ensures.1)

pub returns : goal.returns
returns c = record { kept = weigh_kept c.args.counts.now c.args.entries.now c.args.q c.args.weights.now _ _ c.args.from c.args.width c.args.top c.requires.2 c.requires.3 (λ m l. c.requires.5 _ (omega arith)) c.count_in.ensures.0 c.add_one-total.ensures.1 c.add_entries.ensures.1; is = weigh_is c.args.counts.now c.args.entries.now c.args.q c.args.weights.now _ _ c.args.from c.args.width c.args.top c.requires.2 c.requires.3 (λ m l. c.requires.5 _ (omega arith)) c.count_in.ensures.0 c.add_one-total.ensures.1 c.add_entries.ensures.1; sums = weigh_sums c.args.counts.now c.args.entries.now c.args.q c.args.weights.now _ _ c.args.from c.args.width c.args.top c.requires.2 c.requires.3 (λ m l. c.requires.5 _ (omega arith)) c.count_in.ensures.0 c.add_one-total.ensures.1 c.add_entries.ensures.1; none = weigh_none c.args.counts.now c.args.entries.now c.args.q c.args.weights.now _ _ c.args.from c.args.width c.args.top c.requires.2 c.requires.3 (λ m l. c.requires.5 _ (omega arith)) c.count_in.ensures.0 c.add_one-total.ensures.1 c.add_entries.ensures.1 c.requires.5 }
