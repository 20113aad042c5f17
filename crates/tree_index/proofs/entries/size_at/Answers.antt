use native.Mathlib.Omega.{arith}
use Rattle.tree_index.proofs.Pairs.{size_short, size_other, size_said}
use Rattle.tree_index.proofs.entries.size_at.Goals as goal
use Rattle.tree_index.proofs.entries.size_at.Goals.{then-index-n-via-then-index-n, then-index-n-via-else-index-n+then-pair_in-start}

pub returns-then-index-n : goal.returns-then-index-n
returns-then-index-n c =
    elim c.then-index-n.branch [
      | then-index-n-via-then-index-n w ↦ size_short _ _ _ w.if-index-n.true
      | then-index-n-via-else-index-n+then-pair_in-start w ↦ size_other _ _ _ _ w.pair_in.ensures.0 w.if-pair_in-start.true
    ]

pub returns : goal.returns
returns c = (size_said _ _ _ _ _ c.pair_in.ensures.0 c.if-pair_in-start.false c.pair_in-2.ensures.0 c.if-index-n.false (λ j. omega (arith, c.type_inv.index j)), c.pair_in-2.ensures.1)
