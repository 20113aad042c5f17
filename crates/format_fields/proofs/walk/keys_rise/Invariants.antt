use Prim.Native.Nat.{◌-◌}
use mathlib.Core.Path.{◌≡◌}
use mathlib.Core.Bool.{true}
use lib.ListN.{length}
use Rattle.format_fields.specs.Lists.{all}
use Rattle.format_fields.specs.Keyed.{rising, rising_from}
use Rattle.format_fields.specs.Inner.Places.{places_from, places, order_at, long_at}
use Rattle.format_fields.proofs.walk.keys_rise.Given as goal

abbrev pub invariant-loop-p : goal.invariant-loop-p
invariant-loop-p l = (all (long_at l.s) (places_from l.s l.p) ≡ true) × (rising_from (order_at l.leading_tag l.s) l.least (places_from l.s l.p) ≡ rising (order_at l.leading_tag l.s) (places l.s))

abbrev pub decreases-loop-p : goal.decreases-loop-p
decreases-loop-p l = length l.s - l.p
