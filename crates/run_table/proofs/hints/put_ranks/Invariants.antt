use Prim.Native.Nat.{◌-◌}
use mathlib.Core.Path.{◌≡◌}
use lib.ListN.{length}
use Rattle.run_table.specs.Inner.Filling.{Beside}
use Rattle.run_table.proofs.hints.put_ranks.Given as goal

abbrev pub invariant-loop-p : goal.invariant-loop-p
invariant-loop-p l = (length l.table ≡ 26184) × Beside l.initial.table l.table

abbrev pub decreases-loop-p : goal.decreases-loop-p
decreases-loop-p l = length l.body - l.p
