use mathlib.Core.Path.{sym, ◌∙◌}
use native.Mathlib.Omega.{arith}
use Rattle.reduce_merge.proofs.Walks.{whole_here, met_there}
use Rattle.reduce_merge.proofs.Containing.{no_lie, classes_here, lies_range, lies_same}
use Rattle.reduce_merge.proofs.meet.lies_at.Goals as goal

pub returns-then-not-meets : goal.returns-then-not-meets
returns-then-not-meets c = no_lie _ _ _ _ (sym c.if-not-meets.true ∙ c.meets.ensures)

pub range_within-requires : goal.range_within-requires
range_within-requires c = classes_here _ _ _ _ (sym c.if-not-meets.false ∙ c.meets.ensures) _ c.order_at.ensures.0 (omega arith) c.requires.0 c.requires.1 c.requires.2 c.requires.3

pub returns-then-order_at-from : goal.returns-then-order_at-from
returns-then-order_at-from c = c.range_within.ensures ∙ lies_range _ _ _ _ (sym c.if-not-meets.false ∙ c.meets.ensures) _ c.order_at.ensures.0 (omega arith) c.requires.0 c.requires.1 c.requires.2 c.requires.3

pub same_field-requires : goal.same_field-requires
same_field-requires c = (c.requires.0, whole_here _ _ c.requires.1 (met_there 0x11 c.args.a.now c.args.p c.args.b.now c.args.q (sym c.if-not-meets.false ∙ c.meets.ensures)))

pub returns : goal.returns
returns c = c.same_field.ensures ∙ lies_same _ _ _ _ (sym c.if-not-meets.false ∙ c.meets.ensures) _ c.order_at.ensures.0 (omega arith)
