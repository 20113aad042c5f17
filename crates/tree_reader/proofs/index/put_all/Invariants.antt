use Prim.Native.Nat.{◌-◌}
use mathlib.Core.Path.{◌≡◌}
use lib.ListN.{length}
use Rattle.format_fields.specs.Inner.Places.{places_from, places}
use Rattle.tree_reader.specs.Inner.Index.{put_all}
use Rattle.tree_reader.proofs.index.put_all.Given as goal

abbrev pub invariant-loop-p : goal.invariant-loop-p
invariant-loop-p l = (length l.index ≡ length l.initial.index) × (put_all l.leading_tag l.s l.index (places_from l.s l.p) ≡ put_all l.leading_tag l.s l.initial.index (places l.s))

abbrev pub decreases-loop-p : goal.decreases-loop-p
decreases-loop-p l = length l.s - l.p
