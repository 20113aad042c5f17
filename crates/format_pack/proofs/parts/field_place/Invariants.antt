use Prim.Native.Nat.{◌-◌}
use mathlib.Core.Path.{◌≡◌}
use mathlib.Core.Bool.{true}
use lib.ListN.{length, get_elem?}
use Rattle.format_fields.specs.Lists.{all, keep}
use Rattle.format_fields.specs.Inner.Places.{is_whole, places_from, tag_is}
use Rattle.format_pack.specs.Inner.Parts.{tagged}
use Rattle.format_pack.proofs.parts.field_place.Given as goal

abbrev pub invariant-loop-p : goal.invariant-loop-p
invariant-loop-p l = (all (is_whole l.s) (places_from l.s l.p) ≡ true) × (get_elem? (keep (tag_is l.tag l.s) (places_from l.s l.p)) l.left ≡ get_elem? (tagged l.tag l.s) l.number)

abbrev pub decreases-loop-p : goal.decreases-loop-p
decreases-loop-p l = length l.s - l.p
