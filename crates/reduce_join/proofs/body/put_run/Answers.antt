use Rattle.reduce_join.proofs.Splices.{wrote_to, wrote_over}
use Rattle.reduce_join.proofs.body.put_run.Goals as goal

pub returns-else-m-out : goal.returns-else-m-out
returns-else-m-out c = λ f given u a. wrote_over _ _ _ _ _ (c.run-m.ensures f given u a) c.if-m-out.false

pub returns-then-m-out : goal.returns-then-m-out
returns-then-m-out c = λ f given u a. wrote_to _ _ _ _ _ (c.run-m.ensures f given u a) c.if-m-out.true
