use mathlib.Core.Path.{◌∙◌}
use Rattle.reduce_join.proofs.Turns.{reach_some, reach_clause, reach_end, reach_mapping}
use Rattle.reduce_join.proofs.body.kind_reached.Goals as goal

pub overflow_sub-result : goal.overflow_sub-result
overflow_sub-result c = (reach_some c.args.second_body.now c.args.second_uses.now _ _ _ _ c.requires.1.1 _ c.byte_at.ensures _ c.is_clause.ensures c.if-is_clause.true _ _ (c.from-result.ensures ∙ c.byte_at-then-is_clause.ensures) c.byte_at-then-is_clause-2.ensures).0

pub returns-then-is_clause : goal.returns-then-is_clause
returns-then-is_clause c = ((reach_some c.args.second_body.now c.args.second_uses.now _ _ _ _ c.requires.1.1 _ c.byte_at.ensures _ c.is_clause.ensures c.if-is_clause.true _ _ (c.from-result.ensures ∙ c.byte_at-then-is_clause.ensures) c.byte_at-then-is_clause-2.ensures).1, λ g a. reach_clause c.args.second_body.now c.args.second_uses.now _ _ _ g a _ c.byte_at.ensures _ c.is_clause.ensures c.if-is_clause.true _ _ (c.from-result.ensures ∙ c.byte_at-then-is_clause.ensures) c.byte_at-then-is_clause-2.ensures)

pub overflow_sub-e : goal.overflow_sub-e
overflow_sub-e c = reach_end c.args.second_body.now c.args.second_uses.now _ _ _ _ c.requires.1.1 _ c.byte_at.ensures _ c.is_clause.ensures c.if-is_clause.false

pub returns : goal.returns
returns c = ((reach_mapping c.args.second_body.now c.args.second_uses.now _ _ _ _ c.requires.1.1 _ c.byte_at.ensures _ c.is_clause.ensures c.if-is_clause.false _ c.byte_at-2.ensures).0, λ g a. (reach_mapping c.args.second_body.now c.args.second_uses.now _ _ _ g a _ c.byte_at.ensures _ c.is_clause.ensures c.if-is_clause.false _ c.byte_at-2.ensures).1)
