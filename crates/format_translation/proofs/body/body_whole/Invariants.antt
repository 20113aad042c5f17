use Prim.Native.Nat.{◌-◌}
use mathlib.Core.Path.{◌≡◌}
use lib.ListN.{length}
use Rattle.format_fields.specs.Lists.{is_some}
use Rattle.format_fields.specs.Inner.Places.{places_from}
use Rattle.format_translation.specs.TranslationFile.{body_of}
use Rattle.format_translation.specs.Inner.Items.{items_whole}
use Rattle.format_translation.proofs.body.body_whole.Given as goal

abbrev pub invariant-loop-p : goal.invariant-loop-p
invariant-loop-p l = items_whole l.s l.past (places_from l.s l.p) ≡ is_some (body_of l.s)

abbrev pub decreases-loop-p : goal.decreases-loop-p
decreases-loop-p l = length l.s - l.p
