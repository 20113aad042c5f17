use mathlib.Core.Path.{refl, ◌∙◌}
use native.Mathlib.Omega.{arith}
use Rattle.format_fields.proofs.Keys.{order_plain, order_mapping, order_short, order_clause}
use Rattle.format_fields.proofs.walk.item_order.Goals as goal

pub returns-then-tag-lt-NUMBERED : goal.returns-then-tag-lt-NUMBERED
returns-then-tag-lt-NUMBERED c = (order_plain _ _ _ refl c.if-tag-lt-NUMBERED.true c.whole_key.ensures.0, omega (arith, c.whole_key.ensures.1))

pub returns-then-tag-eq-NUMBERED : goal.returns-then-tag-eq-NUMBERED
returns-then-tag-eq-NUMBERED c = (order_mapping _ _ _ refl c.if-tag-lt-NUMBERED.false c.if-tag-eq-NUMBERED.true c.pair_in.ensures.0, omega (arith, c.pair_in.ensures.1))

pub returns-then-pair_in-lt3 : goal.returns-then-pair_in-lt3
returns-then-pair_in-lt3 c = (order_short _ _ _ refl c.if-tag-lt-NUMBERED.false c.if-tag-eq-NUMBERED.false c.pair_in-2.ensures.0 c.pair_in-3.ensures.0 c.if-pair_in-lt3.true, omega (arith, c.pair_in-2.ensures.1))

pub returns : goal.returns
returns c = (order_clause _ _ _ refl c.if-tag-lt-NUMBERED.false c.if-tag-eq-NUMBERED.false c.pair_in-2.ensures.0 c.pair_in-3.ensures.0 c.if-pair_in-lt3.false (c.from.ensures ∙ c.byte_at.ensures), omega (arith, c.pair_in-2.ensures.1))
