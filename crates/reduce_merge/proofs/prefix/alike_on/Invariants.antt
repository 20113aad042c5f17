use mathlib.Core.Path.{◌≡◌}
use mathlib.Core.Bool.{true}
use Rattle.reduce_merge.specs.Inner.Parts.{Alike}
use Rattle.reduce_merge.proofs.prefix.alike_on.Given as goal

abbrev pub invariant-loop-i : goal.invariant-loop-i
invariant-loop-i l = l.same ≡ true → Alike l.a l.b l.i
