-- The operations on translations (paper 01, "Operations and their refusals").
use Rattle.std.specs.Prelude.{ℕ, not, List, length, ltb}
use Rattle.outcome.specs.Outcome.{Result, value, refuse_if, ◌>>=◌, checked, written, output_after, Outcome}
use Rattle.outcome.specs.declared.Reason.TheVariants.{UnknownRoot, OutputTooShort}
use Rattle.format_fields.specs.Lists.{is_some}
use Rattle.tree_reader.specs.Syntax.{write, tree}
use Rattle.tree_reader.specs.Operations.{tree_of}
use Rattle.format_translation.specs.Translation.{mapping_of}
use Rattle.format_translation.specs.Running.{transform}
use Rattle.format_translation.specs.TranslationFile.{translation_of}

-- Check a translation: 1 to 7.
unfoldable pub check_translation : List ℕ → Outcome
check_translation translation = checked (translation_of translation)

-- A result that fits into so many bytes of output: 17 where it is longer.
abbrev pub fitted : ℕ → List ℕ → Result (List ℕ)
fitted room bytes = refuse_if (ltb room (length bytes)) OutputTooShort (value bytes)

-- Run by a number: 1 to 7, 14 for a root that is not in the source or lacks the number, 15 and 16, 17; then the bytes of the
-- tree that the clauses define.
unfoldable pub run_bytes : List ℕ → ℕ → ℕ → List ℕ → ℕ → Result (List ℕ)
run_bytes translation root number bytes room =
    translation_of translation >>= λ f.
    refuse_if (not (is_some (mapping_of f.body root number))) UnknownRoot
    (tree_of f.source root bytes >>= λ t.
    fitted room (write tree (transform f number t)))

-- All that a run answers and leaves.
pub record Ran : Type 0 where
  pub outcome : Outcome
  pub output : List ℕ

-- Run, with the output as it is lent.
unfoldable pub run_tree : List ℕ → ℕ → ℕ → List ℕ → List ℕ → Ran
run_tree translation root number bytes output =
    let result = run_bytes translation root number bytes (length output) in
    record { outcome = written result; output = output_after output result }
