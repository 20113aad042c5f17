-- The index of a tree (paper 02, 2026-08): for each node, tokens too, in reading order its start and its length in bytes.
use Rattle.std.specs.Prelude.{ℕ, ◌+◌, List, [], ◌∷◌, ◌++◌, length}
use Rattle.format_fields.specs.Fields.{two_bytes}
use Rattle.format_fields.specs.Lists.{concat_map}
use Rattle.tree_reader.specs.Code.{Code, node, token, argument, Codes, nil, cons}
use Rattle.tree_reader.specs.Syntax.{write, tree}

-- Where a node stands in the bytes of the whole tree.
pub data Span : Type 0 where
  span : (start size : ℕ) → Span

-- How many bytes a tree has.
abbrev pub size : Code → ℕ
size t = length (write tree t)

-- The spans of all nodes of a tree in reading order, where it starts at `start`.
unfoldable mutual
  pub spans : (start : ℕ) → Code → List Span
  spans start (node k p t) = span start (size (node k p t)) ∷ spans_all (start + 1) t
  spans start (token v) = span start (size (token v)) ∷ []
  spans start (argument i j) = span start (size (argument i j)) ∷ []

  -- Those of trees that stand one behind the other.
  pub spans_all : (start : ℕ) → Codes → List Span
  spans_all start nil = []
  spans_all start (cons a t) = spans start a ++ spans_all (start + size a) t

-- A span in the index: start and length, two bytes each.
unfoldable pub entry : Span → List ℕ
entry (span start n) = two_bytes start ++ two_bytes n

-- The bytes of spans, one after the other.
unfoldable pub entries : List Span → List ℕ
entries = concat_map entry

-- The index of a tree.
unfoldable pub index_of : Code → List ℕ
index_of t = entries (spans 0 t)
