use Prim.Native.Nat.{◌-◌}
use mathlib.Core.Path.{◌≡◌}
use mathlib.Core.Bool.{Bool}
use mathlib.Core.Option.{some}
use lib.ListN.{length}
use Rattle.format_translation.specs.Translation.{Item, Body}
use Rattle.format_translation.specs.TranslationFile.{body_of}
use Rattle.format_translation.proofs.Uses.{Front}
use Rattle.reduce_operators.specs.Inner.Numbers.{Tests}
use Rattle.reduce_operators.proofs.Numbering.{Passing}
use Rattle.reduce_operators.proofs.numbers.mappings_pass.Given as goal

abbrev pub invariant-loop-p : goal.invariant-loop-p
invariant-loop-p g l = record {
  front : Front l.body l.p;
  left : (b : Body) (passes : Item → Bool) → body_of l.body ≡ some b → (t : Tests (goal.F-post g l.test) passes) → Passing passes t.clauses l.body l.p b;
}

abbrev pub decreases-loop-p : goal.decreases-loop-p
decreases-loop-p g l = length l.body - l.p
