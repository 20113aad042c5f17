-- Trees as XML (paper 02, 2026-05): the export of a tree, in bytes.
use Rattle.std.specs.Prelude.{ℕ, List, [], ◌∷◌, ◌++◌}
use Rattle.std.proofs.Math.Option.{get_or}
use Rattle.format_fields.specs.Decimal.{decimal}
use Rattle.format_language.specs.Language.{Language, arguments_of}
use Rattle.tree_reader.specs.Code.{Code, node, token, argument, Codes, nil, cons}

-- What the tags begin with: "<x" and "</x" for a production, "<t" and "</t" for a token.
abbrev pub open_node : List ℕ
open_node = 60 ∷ 120 ∷ []

abbrev pub close_node : List ℕ
close_node = 60 ∷ 47 ∷ 120 ∷ []

abbrev pub open_token : List ℕ
open_token = 60 ∷ 116 ∷ []

abbrev pub close_token : List ℕ
close_token = 60 ∷ 47 ∷ 116 ∷ []

-- The point between a kind and a name, and the ">" that ends a tag.
abbrev pub point : List ℕ
point = 46 ∷ []

abbrev pub tag_end : List ℕ
tag_end = 62 ∷ []

-- A tag of production k.p: "<x1.4>" or "</x1.4>".
unfoldable pub node_tag : List ℕ → ℕ → ℕ → List ℕ
node_tag begin k p = begin ++ (decimal k ++ (point ++ (decimal p ++ tag_end)))

-- A tag of a token of kind k: "<t2>" or "</t2>".
unfoldable pub token_tag : List ℕ → ℕ → List ℕ
token_tag begin k = begin ++ (decimal k ++ tag_end)

-- The argument kinds of a production.
unfoldable pub kinds_of : Language → ℕ → ℕ → List ℕ
kinds_of l k p = get_or (arguments_of l k p) []

-- The export of a tree of kind k: a production is an element around its arguments, a token one around its value. A tree
-- has no arguments by number.
unfoldable mutual
  pub export : Language → ℕ → Code → List ℕ
  export l k (node j p t) = node_tag open_node j p ++ (export_all l (kinds_of l j p) t ++ node_tag close_node j p)
  export l k (token v) = token_tag open_token k ++ (decimal v ++ token_tag close_token k)
  export l k (argument i j) = []

  -- Trees of the kinds, one after the other.
  pub export_all : Language → List ℕ → Codes → List ℕ
  export_all l ks nil = []
  export_all l [] (cons a t) = []
  export_all l (k ∷ ks) (cons a t) = export l k a ++ export_all l ks t
