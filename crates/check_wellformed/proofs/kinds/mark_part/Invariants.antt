use mathlib.Core.Path.{◌≡◌}
use mathlib.Core.Bool.{true}
use lib.ListN.{length, drop}
use Rattle.format_fields.specs.Lists.{all}
use Rattle.format_language.specs.LanguageFile.{is_kind}
use Rattle.check_wellformed.specs.Inner.Tests.{mark_all}
use Rattle.check_wellformed.proofs.kinds.mark_part.Given as goal

abbrev pub invariant-loop-kind : goal.invariant-loop-kind
invariant-loop-kind l =
    (length l.kinds ≡ length l.initial.kinds) × (all is_kind (drop l.kind-index l.part) ≡ true)
    × (mark_all l.kinds (drop l.kind-index l.part) ≡ mark_all l.initial.kinds l.part)
