use mathlib.Core.Path.{◌≡◌}
use Rattle.run_measure.proofs.Wiping.{Wiping}
use Rattle.run_measure.proofs.weigh.wipe_entries.Given as goal

abbrev pub invariant-loop-key : goal.invariant-loop-key
invariant-loop-key l = record {
  same : l.key-iterator.entries.now ≡ l.entries;
  wipes : Wiping l.entries l.initial.weights l.weights l.at l.width l.key-iterator.at;
}
