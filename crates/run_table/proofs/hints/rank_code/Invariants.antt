use Prim.Native.Nat.{◌-◌}
use mathlib.Core.Path.{◌≡◌}
use lib.ListN.{length}
use Rattle.run_table.specs.Inner.Filling.{Beside}
use Rattle.run_table.proofs.hints.rank_code.Given as goal

abbrev pub invariant-loop-c : goal.invariant-loop-c
invariant-loop-c l = (length l.table ≡ 26184) × Beside l.initial.table l.table

abbrev pub decreases-loop-c : goal.decreases-loop-c
decreases-loop-c l = l.e - l.c
