use Prim.Native.Nat.{◌-◌}
use mathlib.Core.Path.{◌≡◌}
use lib.ListN.{length}
use Rattle.format_fields.specs.Inner.Places.{places_from, places}
use Rattle.format_pack.specs.Inner.Parts.{parts_ordered}
use Rattle.format_pack.proofs.whole.parts_ordered.Given as goal

abbrev pub invariant-loop-p : goal.invariant-loop-p
invariant-loop-p l = parts_ordered l.s l.last (places_from l.s l.p) ≡ parts_ordered l.s 0x30 (places l.s)

abbrev pub decreases-loop-p : goal.decreases-loop-p
decreases-loop-p l = length l.s - l.p
