-- Spans by their starts, and where in an index the entries of a tree stand.
use Rattle.std.specs.Prelude.{ℕ, ◌+◌, ◌<◌, ◌≤◌, ◌≡◌, List, [], ◌∷◌, ◌++◌, drop}
use Rattle.tree_reader.specs.Code.{Code}
use Rattle.tree_index.specs.Spans.{Span, span, size, spans, entries}

-- Every span starts before x.
abbrev pub Below : ℕ → List Span → Type 0
Below x [] = Unit {0}
Below x (span s n ∷ l) = (s < x) × Below x l

-- The first of the spans starts at x or behind it.
abbrev pub Behind : ℕ → List Span → Type 0
Behind x [] = Unit {0}
Behind x (span s n ∷ l) = x ≤ s

-- From p on the index has the entries of spans that start before x, then those of others.
pub record Splits (index : List ℕ) (p x : ℕ) (front back : List Span) : Type 0 where
  pub is : drop p index ≡ entries (front ++ back)
  pub below : Below x front
  pub behind : Behind x back

-- From p on the index has the entries of the tree t, which starts at `at`, then those of nodes behind it.
pub record Entered (index : List ℕ) (p at : ℕ) (t : Code) : Type 0 where
  pub rest : List Span
  pub is : drop p index ≡ entries (spans at t ++ rest)
  pub behind : Behind (at + size t) rest
