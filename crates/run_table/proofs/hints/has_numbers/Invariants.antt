use Prim.Native.Nat.{◌-◌}
use lib.ListN.{length}
use Rattle.run_table.proofs.hints.has_numbers.Given as goal

abbrev pub invariant-loop-p : goal.invariant-loop-p
invariant-loop-p l = Unit {0}

abbrev pub decreases-loop-p : goal.decreases-loop-p
decreases-loop-p l = length l.body - l.p
