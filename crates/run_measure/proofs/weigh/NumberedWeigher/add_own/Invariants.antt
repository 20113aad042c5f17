use mathlib.Core.Path.{◌≡◌}
use Rattle.run_measure.proofs.Wiping.{Owning}
use Rattle.run_measure.proofs.weigh.NumberedWeigher.add_own.Given as goal

abbrev pub invariant-loop-key : goal.invariant-loop-key
invariant-loop-key l = record {
  same : l.key-iterator.entries.now ≡ l.entries;
  adds : Owning l.counts l.entries l.q l.weights l.from l.width l.top l.sum l.key-iterator.at l.total;
}
