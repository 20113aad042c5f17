use Prim.Native.Nat.{◌-◌, ◌≤◌}
use mathlib.Core.Path.{◌≡◌}
use lib.ListN.{length}
use Rattle.run_table.proofs.Hinting.{Hinting}
use Rattle.run_table.proofs.hints.put_hints.Given as goal

abbrev pub invariant-loop-p : goal.invariant-loop-p
invariant-loop-p l = (l.next ≤ l.p) × (length l.table ≡ 26184) × Hinting l.body l.initial.table l.table l.p

abbrev pub decreases-loop-p : goal.decreases-loop-p
decreases-loop-p l = length l.body - l.p
