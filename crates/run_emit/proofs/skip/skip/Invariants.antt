use Prim.Native.Nat.{◌+◌, ◌-◌, ◌*◌}
use mathlib.Core.Path.{◌≡◌}
use lib.ListN.{length}
use Rattle.run_emit.proofs.Skips.{Holds}
use Rattle.run_emit.proofs.skip.skip.Given as goal

abbrev pub invariant-loop-q : goal.invariant-loop-q
invariant-loop-q l = (length l.firsts ≡ 64) × (length l.lasts ≡ 64) × Holds l.reading.syntax l.reading.table.now l.reading.input.now l.from l.at l.firsts l.lasts l.depth l.q l.end l.to

abbrev pub decreases-loop-q : goal.decreases-loop-q
decreases-loop-q l = 2 * (length l.reading.input.now - l.to) + l.depth
