use mathlib.Core.Path.{sym, ◌∙◌}
use native.Mathlib.Omega.{arith}
use Rattle.search_levels.proofs.Alone.{clause_starts, clause_inside, number_inside, alone_matches}
use Rattle.search_levels.proofs.Whole.{the_clause, match_free, match_start, going_inside, match_step, match_stops, match_next, match_done, step_width}
use Rattle.search_levels.proofs.clause.matches.Goals as goal

pub returns-then-searched-at : goal.returns-then-searched-at
returns-then-searched-at c = λ f k p ks g h. match_free _ _ _ _ _ _ _ _ _ _ f k p ks g h c.if-searched-at.true

pub overflow_add-clause : goal.overflow_add-clause
overflow_add-clause c = let q = c.requires in let z = clause_starts _ _ _ _ _ _ _ _ _ _ q.0 q.1 q.2 q.3 q.4 q.5 in omega arith

pub body_at-requires : goal.body_at-requires
body_at-requires c = let q = c.requires in clause_starts _ _ _ _ _ _ _ _ _ _ q.0 q.1 q.2 q.3 q.4 q.5

pub overflow_add-clause-then-body_at-eq-ARGUMENT : goal.overflow_add-clause-then-body_at-eq-ARGUMENT
overflow_add-clause-then-body_at-eq-ARGUMENT c = let q = c.requires in let z = clause_starts _ _ _ _ _ _ _ _ _ _ q.0 q.1 q.2 q.3 q.4 q.5 in omega arith

pub body_at-requires-then-body_at-eq-ARGUMENT : goal.body_at-requires-then-body_at-eq-ARGUMENT
body_at-requires-then-body_at-eq-ARGUMENT c = let q = c.requires in clause_inside _ _ _ _ _ _ _ _ _ _ q.0 q.1 q.2 q.3 q.4 q.5 c.if-searched-at.false (sym c.body_at.ensures.0 ∙ c.if-body_at-eq-ARGUMENT.true)

pub overflow_sub-bound : goal.overflow_sub-bound
overflow_sub-bound c = let q = c.requires in (number_inside _ _ _ _ _ _ _ _ _ _ q.0 q.1 q.2 q.3 q.4 q.5 c.if-searched-at.false (sym c.body_at.ensures.0 ∙ c.if-body_at-eq-ARGUMENT.true) _ c.body_at-then-body_at-eq-ARGUMENT.ensures.0).0

pub offset_bounds-bound-body_at : goal.offset_bounds-bound-body_at
offset_bounds-bound-body_at c = let q = c.requires in let z = (number_inside _ _ _ _ _ _ _ _ _ _ q.0 q.1 q.2 q.3 q.4 q.5 c.if-searched-at.false (sym c.body_at.ensures.0 ∙ c.if-body_at-eq-ARGUMENT.true) _ c.body_at-then-body_at-eq-ARGUMENT.ensures.0).1 in omega arith

pub bounds-bound-body_at : goal.bounds-bound-body_at
bounds-bound-body_at c = let q = c.requires in let z = (number_inside _ _ _ _ _ _ _ _ _ _ q.0 q.1 q.2 q.3 q.4 q.5 c.if-searched-at.false (sym c.body_at.ensures.0 ∙ c.if-body_at-eq-ARGUMENT.true) _ c.body_at-then-body_at-eq-ARGUMENT.ensures.0).1 in omega arith

pub returns-then-body_at-eq-ARGUMENT : goal.returns-then-body_at-eq-ARGUMENT
returns-then-body_at-eq-ARGUMENT c = λ f k p ks g h. alone_matches _ _ _ _ _ _ _ _ _ _ f k p ks g h c.if-searched-at.false (sym c.body_at.ensures.0 ∙ c.if-body_at-eq-ARGUMENT.true) _ c.body_at-then-body_at-eq-ARGUMENT.ensures.0

pub overflow_add-clause-2 : goal.overflow_add-clause-2
overflow_add-clause-2 c = let q = c.requires in let z = clause_starts _ _ _ _ _ _ _ _ _ _ q.0 q.1 q.2 q.3 q.4 q.5 in omega arith

pub clause_end-stop-requires : goal.clause_end-stop-requires
clause_end-stop-requires c = let q = c.requires in (_, the_clause _ _ _ _ _ _ _ _ _ _ q.0 q.1 q.2 q.3 q.4 q.5)

pub overflow_add-c : goal.overflow_add-c
overflow_add-c c = let q = c.requires in let z = (the_clause _ _ _ _ _ _ _ _ _ _ q.0 q.1 q.2 q.3 q.4 q.5).inside in omega arith

pub loop-c-init : goal.loop-c-init
loop-c-init c = let q = c.requires in (going_inside _ _ _ _ _ _ _ _ _ _ q.0 q.1 q.2 q.3 q.4 q.5 _ _ _ _ (match_start _ _ _ _ _ _ _ _ _ _ q.0 q.1 q.2 q.3 q.4 q.5 c.if-searched-at.false _ (c.clause_end-stop.ensures _ (the_clause _ _ _ _ _ _ _ _ _ _ q.0 q.1 q.2 q.3 q.4 q.5))), λ f k p ks g h. match_start _ _ _ _ _ _ _ _ _ _ f k p ks g h c.if-searched-at.false _ (c.clause_end-stop.ensures _ (the_clause _ _ _ _ _ _ _ _ _ _ f k p ks g h)))

pub step-requires : goal.step-requires
step-requires c = let q = c.requires in (_, q.0, q.3, _, _, _, _, match_step _ _ _ _ _ _ _ _ _ _ q.0 q.1 q.2 q.3 q.4 q.5 _ _ _ _ (c.loop-c.invariant.1 q.0 q.1 q.2 q.3 q.4 q.5) c.loop-c-test.true)

pub returns-in_default : goal.returns-in_default
returns-in_default c = λ f k p ks g h. let w = c.loop-c.invariant.1 f k p ks g h in match_stops _ _ _ _ _ _ _ _ _ _ f k p ks g h _ _ _ _ w _ _ (c.step.ensures _ f ks _ _ _ _ (match_step _ _ _ _ _ _ _ _ _ _ f k p ks g h _ _ _ _ w c.loop-c-test.true)) c.in_default.is

pub loop-c-preserved : goal.loop-c-preserved
loop-c-preserved c = (c.loop-c.invariant.0, λ f k p ks g h. let w = c.loop-c.invariant.1 f k p ks g h in match_next _ _ _ _ _ _ _ _ _ _ f k p ks g h _ _ _ _ w _ _ (c.step.ensures _ f ks _ _ _ _ (match_step _ _ _ _ _ _ _ _ _ _ f k p ks g h _ _ _ _ w c.loop-c-test.true)) _ c.in-Some.is (step_width c.body_at-in-loop-c.ensures.0 c.width_of-c.ensures.0))

pub returns : goal.returns
returns c = λ f k p ks g h. match_done _ _ _ _ _ _ _ _ _ _ f k p ks g h _ _ _ _ (c.loop-c.invariant.1 f k p ks g h) c.loop-c-test.false
