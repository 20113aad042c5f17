-- The operation that builds the index of a tree, and the test of an index that is handed in (paper 02, 2026-08).
use Rattle.std.specs.Prelude.{ℕ, Bool, not, ◌||◌, List, length, ltb}
use Rattle.format_fields.specs.Lists.{same_numbers}
use Rattle.outcome.specs.Outcome.{Result, value, refuse_if, ◌>>=◌, checked, written, output_after, Outcome}
use Rattle.outcome.specs.declared.Reason.TheVariants.{NotIndexed}
use Rattle.format_language.specs.Language.{Language}
use Rattle.format_language.specs.LanguageFile.{language_of}
use Rattle.tree_reader.specs.Code.{Code}
use Rattle.tree_reader.specs.Operations.{tree_of}
use Rattle.format_translation.specs.Operations.{fitted, Ran}
use Rattle.tree_index.specs.Spans.{index_of}

-- A tree with an index has at most so many bytes: its starts and lengths are numbers of two bytes.
abbrev pub longest : ℕ
longest = 65535

-- The bytes of a tree are too many for an index.
abbrev pub is_long : List ℕ → Bool
is_long bytes = ltb longest (length bytes)

-- The legal tree of kind root that the bytes are, where the index is its own: 14 to 16, then 22 where the bytes are too many
-- or the index is another.
unfoldable pub indexed_tree : Language → (root : ℕ) (bytes index : List ℕ) → Result Code
indexed_tree l root bytes index =
    tree_of l root bytes >>= λ t.
    refuse_if (is_long bytes || not (same_numbers index (index_of t))) NotIndexed (value t)

-- The check of a tree and its index: 1 to 4 for the language, 14 to 16, 22.
unfoldable pub check_indexed : (language : List ℕ) (root : ℕ) (bytes index : List ℕ) → Outcome
check_indexed language root bytes index = checked (language_of language >>= λ l. indexed_tree l root bytes index)

-- Build the index: 1 to 4 and 14 to 16 as for the check of a tree, 22 for a tree that is too long, 17.
unfoldable pub index_bytes : (language : List ℕ) (root : ℕ) (bytes : List ℕ) (room : ℕ) → Result (List ℕ)
index_bytes language root bytes room =
    language_of language >>= λ l.
    tree_of l root bytes >>= λ t.
    refuse_if (is_long bytes) NotIndexed (fitted room (index_of t))

-- The same, with the output as it is lent.
unfoldable pub index_tree : (language : List ℕ) (root : ℕ) (bytes output : List ℕ) → Ran
index_tree language root bytes output =
    let result = index_bytes language root bytes (length output) in
    record { outcome = written result; output = output_after output result }
