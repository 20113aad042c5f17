use mathlib.Core.Path.{sym, ◌∙◌, refl}
use Rattle.format_pack.proofs.Passes.{over_refused, broken_refused, each_whole, order_refused, clash_refused, pack_accepted}
use Rattle.format_pack.proofs.check.check_pack.Goals as goal

pub returns-then-over_limit : goal.returns-then-over_limit
returns-then-over_limit c = over_refused _ _ c.over_limit.ensures c.if-over_limit.true refl

pub returns-then-not-parts_whole : goal.returns-then-not-parts_whole
returns-then-not-parts_whole c = broken_refused _ _ c.over_limit.ensures c.if-over_limit.false _ c.parts_whole.ensures (c.if-not-parts_whole.true) refl

pub in_order-requires : goal.in_order-requires
in_order-requires c = each_whole _ _ c.over_limit.ensures c.if-over_limit.false _ c.parts_whole.ensures (c.if-not-parts_whole.false)

pub returns-then-not-in_order : goal.returns-then-not-in_order
returns-then-not-in_order c = order_refused _ _ c.over_limit.ensures c.if-over_limit.false _ c.parts_whole.ensures (c.if-not-parts_whole.false) _ c.in_order.ensures (c.if-not-in_order.true) refl

pub languages_clash-requires : goal.languages_clash-requires
languages_clash-requires c = (each_whole _ _ c.over_limit.ensures c.if-over_limit.false _ c.parts_whole.ensures (c.if-not-parts_whole.false), sym c.in_order.ensures ∙ c.if-not-in_order.false)

pub returns-then-languages_clash : goal.returns-then-languages_clash
returns-then-languages_clash c = clash_refused _ _ c.over_limit.ensures c.if-over_limit.false _ c.parts_whole.ensures (c.if-not-parts_whole.false) _ c.in_order.ensures (c.if-not-in_order.false) _ c.languages_clash.ensures c.if-languages_clash.true refl

pub returns : goal.returns
returns c = pack_accepted _ _ c.over_limit.ensures c.if-over_limit.false _ c.parts_whole.ensures (c.if-not-parts_whole.false) _ c.in_order.ensures (c.if-not-in_order.false) _ c.languages_clash.ensures c.if-languages_clash.false refl
