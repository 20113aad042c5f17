use Prim.Native.Nat.{◌-◌}
use mathlib.Core.Path.{◌≡◌}
use mathlib.Core.Option.{some}
use lib.ListN.{length}
use Rattle.format_translation.specs.Translation.{Body}
use Rattle.format_translation.specs.TranslationFile.{body_of}
use Rattle.format_translation.proofs.PlainWalk.{Whole, Left}
use Rattle.format_translation.proofs.plain.is_plain.Given as goal

abbrev pub invariant-loop-p : goal.invariant-loop-p
invariant-loop-p l = Whole l.body l.p × ((b : Body) → body_of l.body ≡ some b → Left l.body l.p b)

abbrev pub decreases-loop-p : goal.decreases-loop-p
decreases-loop-p l = length l.body - l.p
