use Rattle.reduce_operators.proofs.TranslationLaws.{source_entries, target_entries}
use Rattle.reduce_join.proofs.Joined.{body_items, parts_high, parts_unfit, parts_fitted, parts_given}
use Rattle.reduce_join.proofs.join.join_parts.Goals as goal

pub numbers_low-requires : goal.numbers_low-requires
numbers_low-requires c = ((_, body_items _ _ _ _ c.requires.0.1), (_, body_items _ _ _ _ c.requires.1.1))

pub returns-then-not-numbers_low : goal.returns-then-not-numbers_low
returns-then-not-numbers_low c = λ f g p q. parts_high _ _ _ _ _ _ f g p q _ c.numbers_low.ensures (c.if-not-numbers_low.true) _

pub lies_within-requires : goal.lies_within-requires
lies_within-requires c = (target_entries _ _ _ _ c.requires.1.1, source_entries _ _ _ _ c.requires.0.1)

pub returns-then-not-lies_within : goal.returns-then-not-lies_within
returns-then-not-lies_within c = λ f g p q. parts_unfit _ _ _ _ _ _ f g p q _ c.numbers_low.ensures (c.if-not-numbers_low.false) _ c.lies_within.ensures (c.if-not-lies_within.true) _

pub join_fitting-requires : goal.join_fitting-requires
join_fitting-requires c = (c.requires.2, (_, _, parts_fitted _ _ _ _ _ _ _ _ c.requires.0.1 c.requires.1.1 _ c.numbers_low.ensures (c.if-not-numbers_low.false) _ c.lies_within.ensures (c.if-not-lies_within.false)))

pub returns : goal.returns
returns c = λ f g p q. parts_given _ _ _ _ _ _ f g p q _ c.numbers_low.ensures (c.if-not-numbers_low.false) _ c.lies_within.ensures (c.if-not-lies_within.false) _ _ _ (c.join_fitting.ensures f g (parts_fitted _ _ _ _ _ _ f g p q _ c.numbers_low.ensures (c.if-not-numbers_low.false) _ c.lies_within.ensures (c.if-not-lies_within.false)))
