-- The blocks of a tree and the paths to them (paper 02, 2026-06).
use Rattle.std.specs.Prelude.{ℕ, zero, suc, ◌+◌, Bool, true, false, cond, List, [], ◌∷◌, length}
use Rattle.std.proofs.Math.Option.{Option, none, some, get_or}
use Rattle.format_language.specs.Language.{Language, arguments_of}
use Rattle.tree_reader.specs.Code.{Code, node, token, argument, Codes, nil, cons}
use Rattle.tree_reader.specs.Syntax.{write, tree}

-- A block: where it starts in the bytes of the whole tree, its kind, and the tree that it is.
pub record Block : Type 0 where
  pub start : ℕ
  pub kind : ℕ
  pub subtree : Code

-- A block of a tree.
abbrev pub block_of : ℕ → ℕ → Code → Block
block_of start kind subtree = record { start = start; kind = kind; subtree = subtree }

-- The bytes of a block.
abbrev pub bytes_of : Block → List ℕ
bytes_of b = write tree b.subtree

-- Of arguments of these kinds, the first of which starts at `start`, the one that has n before it.
unfoldable pub argument_after : List ℕ → Codes → (n start : ℕ) → Option Block
argument_after [] ts n start = none
argument_after (k ∷ ks) nil n start = none
argument_after (k ∷ ks) (cons t ts) zero start = some (block_of start k t)
argument_after (k ∷ ks) (cons t ts) (suc n) start = argument_after ks ts n (start + length (write tree t))

-- The argument of a number, counted from 1, of the tree that starts at `start`. The arguments of a production stand
-- behind its name; a token has none.
unfoldable pub argument_of : Language → (start : ℕ) → Code → (number : ℕ) → Option Block
argument_of l start (node k p ts) zero = none
argument_of l start (node k p ts) (suc n) = argument_after (get_or (arguments_of l k p) []) ts n (start + 1)
argument_of l start (token v) i = none
argument_of l start (argument j m) i = none

-- What following a path comes to: a block; no such argument; or a block of a kind that may not be seen.
pub data Reached : Type 0 where
  reached : Block → Reached
  nowhere : Reached
  hidden : Reached

-- The block at a path, where the kinds that may be seen are given: the numbers are followed one after the other, and the
-- empty path stays where it is. At each block on the way, the first and the last too, its kind is looked at before the next
-- number (paper 02, 2026-12).
unfoldable pub block_at : (sees : ℕ → Bool) → Language → (path : List ℕ) → Block → Reached
block_at sees l [] b = cond (sees b.kind) (reached b) hidden
block_at sees l (i ∷ path) b =
    elim (sees b.kind) [
      | false ↦ hidden
      | true ↦ elim (argument_of l b.start b.subtree i) [ none ↦ nowhere | some c ↦ block_at sees l path c ]
    ]

-- Every kind may be seen.
abbrev pub every_kind : ℕ → Bool
every_kind k = true
