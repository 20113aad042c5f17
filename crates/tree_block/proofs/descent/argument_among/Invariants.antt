use Prim.Native.Nat.{ℕ, ◌<◌}
use mathlib.Core.List.{List}
use Rattle.format_language.specs.Language.{Language}
use Rattle.tree_reader.specs.Code.{Codes}
use Rattle.tree_block.specs.Inner.Descent.{AlongRow}
use Rattle.tree_block.proofs.Steps.{Walking}
use Rattle.tree_block.proofs.descent.argument_among.Given as goal

abbrev pub invariant-loop-q : goal.invariant-loop-q
invariant-loop-q c =
    (0 < c.left)
    × ((x b : List ℕ) (l : Language) (ts : Codes) → AlongRow x c.language b c.index c.fn.operands.start c.entry c.fn.operands.first c.fn.operands.last l ts
    → Walking x c.language b c.index c.fn.operands.first c.fn.operands.last c.fn.operands.start c.number c.q c.start c.p c.left l ts)
