-- Entries that are compared with those of an index that is there.
use Rattle.std.specs.Prelude.{ℕ, ◌+◌, ◌≡◌, List, length, Option, Some, None}
use Rattle.tree_reader.specs.Code.{Codes}
use Rattle.tree_reader.specs.Syntax.{write_all, tree}
use Rattle.tree_index.specs.Spans.{spans_all, entries}
use Rattle.tree_index.specs.Inner.Marking.{Has}

-- From n on the index has the entries of the trees ts, the first of which starts at `at`, and the last of them ends at `stop`.
pub record Claims (index : List ℕ) (n at : ℕ) (ts : Codes) (stop : ℕ) : Type 0 where
  pub has : Has index n (entries (spans_all at ts))
  pub ends : at + length (write_all tree ts) ≡ stop

-- The answer of comparing: where those entries end in the index, or none where it is not so.
abbrev pub Compares : List ℕ → ℕ → ℕ → Codes → ℕ → Option ℕ → Type 0
Compares index n at ts stop (Some r) = Claims index n at ts stop × (r ≡ n + length (entries (spans_all at ts)))
Compares index n at ts stop None = Claims index n at ts stop → ⊥
