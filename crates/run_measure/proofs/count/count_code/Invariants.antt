use Prim.Native.Nat.{◌-◌}
use mathlib.Core.Path.{◌≡◌}
use lib.ListN.{length}
use Rattle.run_measure.specs.Inner.Counting.{count_code, Below}
use Rattle.run_measure.proofs.count.count_code.Given as goal

abbrev pub invariant-loop-p : goal.invariant-loop-p
invariant-loop-p l = (length l.counts ≡ length l.initial.counts) × (length l.entries ≡ length l.initial.entries) × Below l.counts l.p l.to × (count_code l.body l.p l.to l.own l.first (l.counts, l.entries) ≡ count_code l.body l.from l.to l.own l.first (l.initial.counts, l.initial.entries))

abbrev pub decreases-loop-p : goal.decreases-loop-p
decreases-loop-p l = l.to - l.p
