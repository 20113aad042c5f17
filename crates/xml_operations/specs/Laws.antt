-- Export and import undo each other (paper 02, 2026-05).
use Rattle.std.specs.Prelude.{ℕ, ◌≤◌, ◌≡◌, List, []}
use Rattle.outcome.specs.Outcome.{value}
use Rattle.format_language.specs.Language.{Language}
use Rattle.format_language.specs.LanguageFile.{language_of}
use Rattle.tree_reader.specs.Code.{Code, levels}
use Rattle.tree_reader.specs.Typing.{Typed}
use Rattle.tree_reader.specs.Operations.{tree_levels, tree_of}
use Rattle.xml_text.specs.Text.{export}
use Rattle.xml_operations.specs.Operations.{import_of}

-- Import of the export of a legal tree gives the tree.
abbrev pub LawOfExports : Type 0
LawOfExports =
    (file : List ℕ) (l : Language) (root : ℕ) (bytes : List ℕ) (t : Code)
    → language_of file ≡ value l → tree_of l root bytes ≡ value t → import_of l root (export l root t) ≡ value t

-- What import accepts is the export of the tree that it gives, which is a legal tree of the root kind within the levels.
abbrev pub LawOfImports : Type 0
LawOfImports =
    (l : Language) (root : ℕ) (text : List ℕ) (t : Code) → import_of l root text ≡ value t
    → (text ≡ export l root t) × Typed l [] t root × (levels t ≤ tree_levels)

-- Texts that import alike are equal.
abbrev pub LawOfTexts : Type 0
LawOfTexts =
    (l : Language) (root : ℕ) (first second : List ℕ) (t : Code)
    → import_of l root first ≡ value t → import_of l root second ≡ value t → first ≡ second
