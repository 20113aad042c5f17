use native.Mathlib.Omega.{arith}
use Rattle.format_fields.proofs.Keys.{order_item, order_other}
use Rattle.format_fields.proofs.walk.order_at.Goals as goal

pub returns-then-leading_tag-eq-MAPPING : goal.returns-then-leading_tag-eq-MAPPING
returns-then-leading_tag-eq-MAPPING c = (order_item _ _ _ _ c.if-leading_tag-eq-MAPPING.true c.item_order.ensures.0, c.item_order.ensures.1)

pub returns : goal.returns
returns c = (order_other _ _ _ _ c.if-leading_tag-eq-MAPPING.false c.whole_key.ensures.0, omega (arith, c.whole_key.ensures.1))
