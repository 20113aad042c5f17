use Prim.Native.Nat.{◌-◌}
use lib.ListN.{length}
use Rattle.format_fields.proofs.Skips.{Passed}
use Rattle.format_fields.proofs.walk.skip_below.Given as goal

abbrev pub invariant-loop-q : goal.invariant-loop-q
invariant-loop-q l = Passed l.leading_tag l.least l.s l.p l.q

abbrev pub decreases-loop-q : goal.decreases-loop-q
decreases-loop-q l = length l.s - l.q
