use mathlib.Core.Path.{refl, ◌∙◌}
use native.Mathlib.Omega.{arith}
use Rattle.score_join.proofs.Joins.{joins_begin, joins_end, entry_in, joins_class, load_asks, join_few, join_room, joins_outside, joins_next, puts_outside}
use Rattle.score_join.proofs.join.join_loads.Goals as goal

pub loop-p-init : goal.loop-p-init
loop-p-init c = (refl, λ f w a. joins_begin a _)

pub whole_end-e-requires : goal.whole_end-e-requires
whole_end-e-requires c = let i = entry_in c.requires.1.2 (c.loop-p.invariant.1 _ _ c.requires.1.2) c.loop-p-test.true in omega (arith, i.0, i.1)

pub overflow_sub-e-then-source-p-eq-PRODUCTION : goal.overflow_sub-e-then-source-p-eq-PRODUCTION
overflow_sub-e-then-source-p-eq-PRODUCTION c = let i = entry_in c.requires.1.2 (c.loop-p.invariant.1 _ _ c.requires.1.2) c.loop-p-test.true in omega (arith, i.0, c.whole_end-e.ensures.is)

pub join_load-requires : goal.join_load-requires
join_load-requires c = (let r = join_room c.requires.1.2 (c.loop-p.invariant.1 _ _ c.requires.1.2) c.loop-p-test.true c.if-source-p-eq-PRODUCTION.true _ c.whole_end-e.ensures.is in omega (arith, r, c.loop-p.invariant.0, c.requires.0), c.loop-p.invariant.0 ∙ c.requires.0, (join_few c.requires.1.2 (c.loop-p.invariant.1 _ _ c.requires.1.2) c.loop-p-test.true c.if-source-p-eq-PRODUCTION.true _ c.whole_end-e.ensures.is).0, (join_few c.requires.1.2 (c.loop-p.invariant.1 _ _ c.requires.1.2) c.loop-p-test.true c.if-source-p-eq-PRODUCTION.true _ c.whole_end-e.ensures.is).1, (c.requires.1.0, c.requires.1.1, load_asks c.requires.1.2 (c.loop-p.invariant.1 _ _ c.requires.1.2) c.loop-p-test.true c.if-source-p-eq-PRODUCTION.true _))

pub returns-in_err-n : goal.returns-in_err-n
returns-in_err-n c = λ f w a. rw c.from_residual.ensures (puts_outside (joins_outside a (c.loop-p.invariant.1 f w a) c.loop-p-test.true c.if-source-p-eq-PRODUCTION.true _ c.whole_end-e.ensures.is _ _ (c.join_load.ensures f w (load_asks a (c.loop-p.invariant.1 f w a) c.loop-p-test.true c.if-source-p-eq-PRODUCTION.true _)) c.in_err-n.was))

pub loop-p-preserved-in_ok-n : goal.loop-p-preserved-in_ok-n
loop-p-preserved-in_ok-n c = (omega (arith, c.join_load.auto.joined, c.loop-p.invariant.0), λ f w a. joins_next a (c.loop-p.invariant.1 f w a) c.loop-p-test.true c.if-source-p-eq-PRODUCTION.true _ c.whole_end-e.ensures.is _ _ (c.join_load.ensures f w (load_asks a (c.loop-p.invariant.1 f w a) c.loop-p-test.true c.if-source-p-eq-PRODUCTION.true _)) _ c.in_ok-n.was)

pub loop-p-preserved : goal.loop-p-preserved
loop-p-preserved c = (c.loop-p.invariant.0, λ f w a. joins_class a (c.loop-p.invariant.1 f w a) c.loop-p-test.true c.if-source-p-eq-PRODUCTION.false _ c.whole_end-e.ensures.is)

pub returns : goal.returns
returns c = λ f w a. joins_end a (c.loop-p.invariant.1 f w a) c.loop-p-test.false
