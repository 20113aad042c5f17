use native.Mathlib.Omega.{arith}
use Rattle.reduce_merge.proofs.Prefixes.{shared_start, shared_all, shared_step}
use Rattle.reduce_merge.proofs.prefix.shared.Goals as goal

pub returns-then-b-n : goal.returns-then-b-n
returns-then-b-n c = λ first. shared_all first _ _ _ c.requires.0 c.alike-n.ensures c.if-a-n.true c.if-b-n.true

pub loop-p-init : goal.loop-p-init
loop-p-init c = (omega arith, λ first. shared_start first _ _ c.requires.0 c.requires.1)

pub loop-p-preserved : goal.loop-p-preserved
loop-p-preserved c = (c.if-n-e.false, λ first. shared_step first _ _ _ _ (c.loop-p.invariant.1 first) c.alike-n.ensures c.loop-p-test.true _ c.whole_end-e.ensures.is c.if-n-e.false)
