use mathlib.Core.Path.{ap, ◌∙◌}
use Rattle.format_translation.specs.Inner.Items.{is_clause_tag}
use Rattle.reduce_join.proofs.Turns.{table_at, number_none, number_code, number_there, number_mapping}
use Rattle.reduce_join.proofs.body.join_number.Goals as goal

pub returns-then-to-eq0 : goal.returns-then-to-eq0
returns-then-to-eq0 c = λ f g a. number_none c.args.table.now c.args.first_uses.now c.args.second_body.now _ _ _ _ _ f g a _ (table_at c.args.first_uses.now _ _ _ _ _ c.from.ensures c.from-2.ensures c.byte_at-to.ensures) c.if-to-eq0.true _ _ c.requires.0

pub join_clause-requires : goal.join_clause-requires
join_clause-requires c = (c.requires.0, c.requires.1, (_, _, (number_code c.args.table.now c.args.first_uses.now c.args.second_body.now _ _ _ _ _ _ _ c.requires.3.2 _ (table_at c.args.first_uses.now _ _ _ _ _ c.from.ensures c.from-2.ensures c.byte_at-to.ensures) c.if-to-eq0.false _ (c.is_clause.ensures ∙ ap is_clause_tag c.byte_at.ensures) c.if-is_clause.true)))

pub returns-then-is_clause : goal.returns-then-is_clause
returns-then-is_clause c = λ f g a. number_there c.args.table.now c.args.first_uses.now c.args.second_body.now _ _ _ _ _ f g a _ (table_at c.args.first_uses.now _ _ _ _ _ c.from.ensures c.from-2.ensures c.byte_at-to.ensures) c.if-to-eq0.false _ _ _ _ (c.join_clause.ensures f g (number_code c.args.table.now c.args.first_uses.now c.args.second_body.now _ _ _ _ _ f g a _ (table_at c.args.first_uses.now _ _ _ _ _ c.from.ensures c.from-2.ensures c.byte_at-to.ensures) c.if-to-eq0.false _ (c.is_clause.ensures ∙ ap is_clause_tag c.byte_at.ensures) c.if-is_clause.true))

pub returns : goal.returns
returns c = λ f g a. number_mapping c.args.table.now c.args.first_uses.now c.args.second_body.now _ _ _ _ _ f g a _ (table_at c.args.first_uses.now _ _ _ _ _ c.from.ensures c.from-2.ensures c.byte_at-to.ensures) c.if-to-eq0.false _ (c.is_clause.ensures ∙ ap is_clause_tag c.byte_at.ensures) c.if-is_clause.false _ _ c.byte_at-source.ensures c.from-3.ensures _ _ _ _ c.put_mapping.ensures
