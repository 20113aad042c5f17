-- The masked plan (paper 02, 2026-12): "the tree with each block of another kind, root and tokens included, written as the
-- one byte FF".
use Rattle.std.specs.Prelude.{ℕ, cond, List, [], ◌∷◌, ◌++◌}
use Rattle.std.proofs.Math.Option.{get_or}
use Rattle.format_fields.specs.Fields.{two_bytes}
use Rattle.format_language.specs.Language.{Language, arguments_of}
use Rattle.tree_reader.specs.Code.{Code, node, token, argument, Codes, nil, cons}
use Rattle.format_card.specs.Card.{Card, sees}

-- What is written for a hidden block.
abbrev pub hidden_block : List ℕ
hidden_block = 0xFF ∷ []

-- The masked bytes of a block of kind k: its own bytes with each hidden block in it replaced, or FF where it is hidden
-- itself. A tree has no arguments by number.
unfoldable mutual
  pub masked : Language → Card → ℕ → Code → List ℕ
  masked l card k (node j p t) = cond (sees card k) (p ∷ masked_all l card (get_or (arguments_of l j p) []) t) hidden_block
  masked l card k (token v) = cond (sees card k) (two_bytes v) hidden_block
  masked l card k (argument i j) = cond (sees card k) [] hidden_block

  -- Blocks of these kinds, one after the other.
  pub masked_all : Language → Card → List ℕ → Codes → List ℕ
  masked_all l card ks nil = []
  masked_all l card [] (cons a t) = []
  masked_all l card (k ∷ ks) (cons a t) = masked l card k a ++ masked_all l card ks t
