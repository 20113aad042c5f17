use Rattle.std.proofs.Common.{ℕ, Bool}
use Rattle.format_language.specs.Language.{Language}
use Rattle.tree_reader.specs.Code.{Code}
use Rattle.tree_block.specs.Inner.Descent.{SetOf, Along}
use Rattle.tree_block.proofs.Paths.{Going}
use Rattle.tree_block.proofs.descent.descend.Given as goal

abbrev pub invariant-loop-number : goal.invariant-loop-number
invariant-loop-number c =
    (l : Language) (t : Code) (sees : ℕ → Bool) → Along c.places c.language c.tree c.index 0 c.kind 0 l t → SetOf c.seen sees
    → Going c.places c.language c.tree c.index c.path c.kind c.block c.number-index l t sees
