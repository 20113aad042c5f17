use Rattle.std.proofs.Common.{arith}
use Rattle.tree_index.proofs.Starts.{pass_stop, pass_on, pass_end}
use Rattle.tree_index.proofs.entries.entry_from.Goals as goal

pub returns-then-position-pair_at : goal.returns-then-position-pair_at
returns-then-position-pair_at c = λ front back h. pass_stop _ _ _ _ front back (c.loop-p.invariant front back h) _ c.pair_at.ensures.0 c.if-position-pair_at.true

pub loop-p-preserved : goal.loop-p-preserved
loop-p-preserved c = λ front back h. pass_on _ _ _ _ front back (c.loop-p.invariant front back h) _ c.pair_at.ensures.0 c.loop-p-test.true (λ q. omega (arith, c.if-position-pair_at.false))

pub returns : goal.returns
returns c = λ front back h. pass_end _ _ _ _ front back (c.loop-p.invariant front back h) h c.requires c.loop-p-test.false

pub returns-else-position-pair_at : goal.returns-else-position-pair_at
returns-else-position-pair_at c = λ front back h.
    let w = pass_on _ _ _ _ front back (c.loop-p.invariant front back h) _ c.pair_at.ensures.0 c.loop-p-test.true (λ q. omega (arith, c.if-position-pair_at.false)) in
    pass_end _ _ _ _ front back w h c.requires (omega arith)
