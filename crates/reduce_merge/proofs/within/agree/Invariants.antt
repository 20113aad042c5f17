use Prim.Native.Nat.{◌-◌}
use mathlib.Core.Path.{◌≡◌}
use mathlib.Core.Bool.{true}
use lib.ListN.{length}
use Rattle.reduce_merge.proofs.Agreeing.{Agreeing}
use Rattle.reduce_merge.proofs.within.agree.Given as goal

abbrev pub invariant-loop-q : goal.invariant-loop-q
invariant-loop-q l = (l.same ≡ true) × Agreeing l.leading_tag l.a l.b l.p l.q

abbrev pub decreases-loop-q : goal.decreases-loop-q
decreases-loop-q l = length l.b - l.q

abbrev pub invariant-clash : goal.invariant-clash
invariant-clash l = (l.same ≡ true) × Agreeing l.leading_tag l.a l.b l.p l.q

abbrev pub decreases-clash : goal.decreases-clash
decreases-clash l = length l.a - l.p
