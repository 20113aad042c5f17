use mathlib.Core.Path.{sym, ◌∙◌}
use native.Mathlib.Omega.{arith}
use Rattle.format_fields.proofs.Truth.{false_true}
use Rattle.search_levels.proofs.Alone.{root_inside, root_other, differ}
use Rattle.search_levels.proofs.clause.root_differs.Goals as goal

pub returns-then-tree-at : goal.returns-then-tree-at
returns-then-tree-at c = λ e. false_true e

pub overflow_add-clause : goal.overflow_add-clause
overflow_add-clause c = let q = c.requires in let z = root_inside _ _ _ _ _ _ _ _ _ _ _ _ _ _ _ q.11 in omega arith

pub body_at-requires : goal.body_at-requires
body_at-requires c = let q = c.requires in let z = root_inside _ _ _ _ _ _ _ _ _ _ _ _ _ _ _ q.11 in omega arith

pub returns-then-body_at-eq-ARGUMENT : goal.returns-then-body_at-eq-ARGUMENT
returns-then-body_at-eq-ARGUMENT c = λ e. false_true e

pub overflow_add-clause-2 : goal.overflow_add-clause-2
overflow_add-clause-2 c = let q = c.requires in let z = root_inside _ _ _ _ _ _ _ _ _ _ _ _ _ _ _ q.11 in omega arith

pub body_at-requires-2 : goal.body_at-requires-2
body_at-requires-2 c = let q = c.requires in root_inside _ _ _ _ _ _ _ _ _ _ _ _ _ _ _ q.11

pub returns : goal.returns
returns c = λ e target places kinds memory bound place f k p ks g h. root_other _ target places kinds _ memory bound place _ _ f k p ks g h c.if-tree-at.false (λ z. c.if-body_at-eq-ARGUMENT.false (c.body_at.ensures.0 ∙ z)) (λ z. differ e (c.from.ensures ∙ (sym z ∙ sym c.body_at-2.ensures.0)))
