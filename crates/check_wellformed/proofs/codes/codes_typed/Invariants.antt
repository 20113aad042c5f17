use Prim.Native.Nat.{◌-◌}
use mathlib.Core.Path.{◌≡◌}
use mathlib.Core.Bool.{true}
use lib.ListN.{length}
use Rattle.format_fields.specs.Lists.{all}
use Rattle.format_fields.specs.Inner.Places.{places_from}
use Rattle.format_translation.specs.Translation.{Translation}
use Rattle.format_translation.specs.WellFormed.{code_fits}
use Rattle.format_translation.specs.Inner.Items.{item_at}
use Rattle.check_wellformed.specs.Inner.Ready.{Holds}
use Rattle.check_wellformed.specs.Inner.Tests.{is_clause_at}
use Rattle.check_wellformed.proofs.Along.{Along}
use Rattle.check_wellformed.proofs.codes.codes_typed.Given as goal

abbrev pub invariant-loop-to : goal.invariant-loop-to
invariant-loop-to l = ((f : Translation) → Holds l.parts l.initial.uses f → Holds l.parts l.uses f) × (all (is_clause_at l.body) (places_from l.body l.to) ≡ true) × ((f : Translation) → Holds l.parts l.initial.uses f → all (λ x. code_fits f (item_at l.body x)) (places_from l.body l.to) ≡ all (λ x. code_fits f (item_at l.body x)) (places_from l.body l.p)) × (length l.uses ≡ length l.initial.uses) × Along l.parts.source.now l.from l.body l.to

abbrev pub decreases-loop-to : goal.decreases-loop-to
decreases-loop-to l = length l.body - l.to
