-- A plan with one block replaced (paper 02, 2026-08).
use Rattle.std.specs.Prelude.{ℕ, zero, suc, List, [], ◌∷◌}
use Rattle.tree_reader.specs.Code.{Code, node, token, argument, Codes, nil, cons}

-- The operands with the one that has n before it changed by h.
unfoldable pub replace_after : (n : ℕ) → (h : Code → Code) → Codes → Codes
replace_after n h nil = nil
replace_after zero h (cons a t) = cons (h a) t
replace_after (suc n) h (cons a t) = cons a (replace_after n h t)

-- The tree with the block at a path replaced by another. Operands are counted from 1; where the path leads nowhere, nothing
-- is replaced.
unfoldable pub replace_at : (path : List ℕ) → (block : Code) → Code → Code
replace_at [] b t = b
replace_at (zero ∷ path) b t = t
replace_at (suc n ∷ path) b (node k p ts) = node k p (replace_after n (replace_at path b) ts)
replace_at (suc n ∷ path) b (token v) = token v
replace_at (suc n ∷ path) b (argument i j) = argument i j
