use Prim.Native.Nat.{◌-◌}
use lib.ListN.{length}
use Rattle.format_fields.specs.Keyed.{without}
use Rattle.reduce_merge.specs.Inner.Parts.{same_part, removed}
use Rattle.reduce_merge.proofs.Turns.{Going}
use Rattle.reduce_merge.proofs.merge.remove.Given as goal

abbrev pub invariant-loop-p : goal.invariant-loop-p
invariant-loop-p l = Going (without same_part) (removed l.leading_tag l.a l.b) l.leading_tag l.a l.b l.initial.out l.out l.p l.q l.n

abbrev pub decreases-loop-p : goal.decreases-loop-p
decreases-loop-p l = length l.a - l.p
