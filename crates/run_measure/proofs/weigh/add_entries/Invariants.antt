use mathlib.Core.Path.{◌≡◌}
use lib.ListN.{get_or}
use Rattle.run_measure.proofs.Windows.{Entering}
use Rattle.run_measure.proofs.weigh.add_entries.Given as goal

abbrev pub invariant-loop-key : goal.invariant-loop-key
invariant-loop-key l = record {
  same : l.key-iterator.entries.now ≡ l.entries;
  adds : Entering l.entries (get_or l.entries l.q 0) l.initial.weights l.weights l.from l.width l.top l.sum l.key-iterator.at l.total;
}
