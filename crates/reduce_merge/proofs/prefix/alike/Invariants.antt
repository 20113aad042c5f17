use Rattle.reduce_merge.specs.Inner.Parts.{Alike}
use Rattle.reduce_merge.proofs.prefix.alike.Given as goal

abbrev pub invariant-loop-i : goal.invariant-loop-i
invariant-loop-i l = Alike l.a l.b l.i
