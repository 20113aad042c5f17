use Prim.Native.Nat.{◌-◌}
use mathlib.Core.Path.{◌≡◌}
use mathlib.Core.Option.{some}
use lib.ListN.{length}
use Rattle.tree_reader.specs.Inner.Positions.{uses_length}
use Rattle.format_translation.specs.Translation.{Body}
use Rattle.format_translation.specs.TranslationFile.{body_of}
use Rattle.format_translation.proofs.Uses.{Front, Filling}
use Rattle.format_translation.proofs.index.put_uses.Given as goal

abbrev pub invariant-loop-p : goal.invariant-loop-p
invariant-loop-p l = (length l.uses ≡ uses_length) × Front l.body l.p × ((b : Body) → body_of l.body ≡ some b → Filling l.body l.p l.uses b)

abbrev pub decreases-loop-p : goal.decreases-loop-p
decreases-loop-p l = length l.body - l.p
