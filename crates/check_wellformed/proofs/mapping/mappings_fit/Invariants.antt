use Prim.Native.Nat.{◌-◌}
use mathlib.Core.Path.{◌≡◌}
use mathlib.Core.Bool.{true}
use lib.ListN.{length}
use Rattle.format_fields.specs.Lists.{all}
use Rattle.format_fields.specs.Inner.Places.{places_from, places}
use Rattle.format_translation.specs.Inner.Items.{item_whole}
use Rattle.format_translation.proofs.Uses.{Front}
use Rattle.check_wellformed.specs.Inner.Tests.{fits_in}
use Rattle.check_wellformed.proofs.Along.{Along}
use Rattle.check_wellformed.proofs.mapping.mappings_fit.Given as goal

abbrev pub invariant-loop-p : goal.invariant-loop-p
invariant-loop-p l = Front l.body l.p × (all (item_whole l.body) (places_from l.body l.p) ≡ true) × (all (fits_in l.parts l.marked l.reached) (places_from l.body l.p) ≡ all (fits_in l.parts l.marked l.reached) (places l.body)) × Along l.parts.source.now l.from l.body l.p

abbrev pub decreases-loop-p : goal.decreases-loop-p
decreases-loop-p l = length l.body - l.p
