use Prim.Native.Nat.{◌-◌}
use mathlib.Core.Path.{◌≡◌}
use mathlib.Core.Bool.{Bool, true}
use mathlib.Core.List.{List}
use lib.ListN.{length}
use Rattle.format_fields.specs.Lists.{all, any}
use Rattle.format_fields.specs.Inner.Places.{places_from, places}
use Rattle.format_language.specs.Inner.Entries.{entry_whole, mark_classes, result_marked}
use Rattle.format_language.proofs.Classes.{RisesFrom}
use Rattle.format_language.proofs.clash.mark_classes.Given as goal

abbrev pub invariant-loop-p : goal.invariant-loop-p
invariant-loop-p l = (length l.kinds ≡ 32) × (all (entry_whole l.s) (places_from l.s l.p) ≡ true) × RisesFrom l.s l.p × (mark_classes l.s l.kinds (places_from l.s l.p) ≡ mark_classes l.s l.initial.kinds (places l.s)) × ((table : List Bool) → any (result_marked l.s table) (places_from l.s l.p) ≡ any (result_marked l.s table) (places l.s))

abbrev pub decreases-loop-p : goal.decreases-loop-p
decreases-loop-p l = length l.s - l.p
