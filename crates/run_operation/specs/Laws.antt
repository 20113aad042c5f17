-- What the cost of a run promises (paper 02, 2026-02), over all translations, roots, numbers, trees and outputs.
use Rattle.std.specs.Prelude.{ℕ, ◌≤◌, ◌≡◌, List}
use Rattle.outcome.specs.Outcome.{value}
use Rattle.tree_reader.specs.Code.{Code}
use Rattle.tree_reader.specs.Operations.{tree_of}
use Rattle.format_translation.specs.Translation.{Translation}
use Rattle.format_translation.specs.Running.{clauses_of}
use Rattle.format_translation.specs.TranslationFile.{translation_of}
use Rattle.run_measure.specs.Cost.{productions, UsesOnce}
use Rattle.run_operation.specs.Operations.{run_cost}

-- Where no clause of the translation uses an argument twice, a run reports at most the number of productions in its tree.
abbrev pub RunCostBound : Type 0
RunCostBound =
    (translation bytes : List ℕ) (root number room : ℕ) (f : Translation) (t : Code)
    → translation_of translation ≡ value f
    → tree_of f.source root bytes ≡ value t
    → UsesOnce (clauses_of f)
    → run_cost translation root number bytes room ≤ productions t
