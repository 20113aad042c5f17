use mathlib.Core.Path.{◌∙◌}
use borrow.Author.Tests.{le-ltb}
use Rattle.reduce_merge.proofs.Walks.{key_here, meets_end, meets_key}
use Rattle.reduce_merge.proofs.meet.meets.Goals as goal

pub order_at-requires-then-q-b : goal.order_at-requires-then-q-b
order_at-requires-then-q-b c = key_here _ _ c.requires.1 c.if-q-b.true

pub returns-then-q-b : goal.returns-then-q-b
returns-then-q-b c = rw (c.order_at.ensures.0, c.order_at-then-q-b.ensures.0) (meets_key _ _ _ _ _ c.if-q-b.true)

pub returns-else-q-b : goal.returns-else-q-b
returns-else-q-b c = le-ltb _ _ c.if-q-b.false ∙ meets_end _ _ _ _ _ c.if-q-b.false
