use native.Mathlib.Omega.{arith}
use Rattle.tree_index.proofs.Pairs.{entry_put}
use Rattle.tree_index.proofs.entries.put_entry.Goals as goal

pub returns-then-out-n : goal.returns-then-out-n
returns-then-out-n c = λ h. absurd (omega (arith, c.if-out-n.true))

pub returns : goal.returns
returns c = λ h. entry_put _ _ _ _ _ _ h c.put_pair.ensures c.put_pair-2.ensures
