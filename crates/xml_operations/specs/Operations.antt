-- The operations export and import (paper 02, 2026-05).
use Rattle.std.specs.Prelude.{ℕ, not, List, [], ◌∷◌, length}
use Rattle.outcome.specs.Outcome.{Result, value, refused, refuse_if, ◌>>=◌, written, output_after}
use Rattle.outcome.specs.declared.Reason.TheVariants.{UnknownRoot, TooDeep, NotAnExport}
use Rattle.format_language.specs.Language.{Language, is_in}
use Rattle.format_language.specs.LanguageFile.{language_of}
use Rattle.tree_reader.specs.Code.{Code}
use Rattle.tree_reader.specs.Syntax.{Read, done, deep, broken, write, tree}
use Rattle.tree_reader.specs.Operations.{tree_levels, tree_of}
use Rattle.format_translation.specs.Operations.{fitted, Ran}
use Rattle.xml_text.specs.Text.{export}
use Rattle.xml_text.specs.Import.{read_text}

-- What was read, with nothing after it: 16 and 20 in reading order, last 20 for text that is left over.
abbrev pub whole_text : Read Code → Result Code
whole_text (done t []) = value t
whole_text (done t (b ∷ s)) = refused NotAnExport
whole_text deep = refused TooDeep
whole_text broken = refused NotAnExport

-- The legal tree of kind root whose export the text is: 14, 16 or 20 where there is none.
unfoldable pub import_of : Language → ℕ → List ℕ → Result Code
import_of l root text = refuse_if (not (is_in l root)) UnknownRoot (whole_text (read_text l tree_levels root text))

-- Export: 1 to 4, 14 to 16 as for the check of a tree, 17; then the text.
unfoldable pub export_text : List ℕ → ℕ → List ℕ → ℕ → Result (List ℕ)
export_text language root bytes room =
    language_of language >>= λ l.
    tree_of l root bytes >>= λ t.
    fitted room (export l root t)

-- Import: 1 to 4, 14, 16 and 20, 17; then the bytes of the tree.
unfoldable pub import_bytes : List ℕ → ℕ → List ℕ → ℕ → Result (List ℕ)
import_bytes language root text room =
    language_of language >>= λ l.
    import_of l root text >>= λ t.
    fitted room (write tree t)

-- Export, with the output as it is lent.
unfoldable pub export_tree : List ℕ → ℕ → List ℕ → List ℕ → Ran
export_tree language root bytes output =
    let result = export_text language root bytes (length output) in
    record { outcome = written result; output = output_after output result }

-- Import, with the output as it is lent.
unfoldable pub import_tree : List ℕ → ℕ → List ℕ → List ℕ → Ran
import_tree language root text output =
    let result = import_bytes language root text (length output) in
    record { outcome = written result; output = output_after output result }
