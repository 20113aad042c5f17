-- What an operation answers and leaves.
use Rattle.std.specs.Prelude.{ℕ, List, [], length}
use Rattle.outcome.specs.Outcome.{◌>>=◌, Outcome}
use Rattle.format_language.specs.Language.{Language}
use Rattle.tree_reader.specs.Syntax.{read, write, tree}
use Rattle.tree_reader.specs.Operations.{tree_levels, whole_tree}
use Rattle.tree_reader.specs.Inner.Index.{Indexed}
use Rattle.format_translation.specs.Operations.{fitted}
use Rattle.check_operations.specs.Inner.Answering.{Gives}
use Rattle.xml_text.specs.Text.{export}
use Rattle.xml_text.specs.Import.{read_text}
use Rattle.xml_operations.specs.Operations.{whole_text}

-- The outcome, and the output that is left, are those of the export of the tree of kind k that the bytes b are, with nothing
-- after it.
abbrev pub GivesTree : List ℕ → List ℕ → ℕ → List ℕ → List ℕ → List ℕ → Outcome → Type 0
GivesTree s index k b before after outcome =
    (l : Language) → Indexed index s l
    → Gives (whole_tree (read tree l [] tree_levels k b) >>= λ t. fitted (length before) (export l k t)) before after outcome

-- They are those of the tree of kind k whose export the text is, with nothing after it.
abbrev pub GivesWhole : List ℕ → List ℕ → ℕ → List ℕ → List ℕ → List ℕ → Outcome → Type 0
GivesWhole s index k text before after outcome =
    (l : Language) → Indexed index s l
    → Gives (whole_text (read_text l tree_levels k text) >>= λ t. fitted (length before) (write tree t)) before after outcome
