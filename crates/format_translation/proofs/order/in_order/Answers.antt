use Rattle.format_fields.specs.Inner.Places.{order_at}
use Rattle.format_language.proofs.Holds.{holds_entries}
use Rattle.format_translation.proofs.Items.{holds_items}
use Rattle.format_language.proofs.Facts.{entries_long}
use Rattle.format_translation.proofs.Whole.{items_long}
use Rattle.format_translation.proofs.Rising.{order_source, order_target, order_body}
use Rattle.format_translation.proofs.order.in_order.Goals as goal

pub keys_rise-requires : goal.keys_rise-requires
keys_rise-requires c = entries_long _ (holds_entries _ _ c.requires.1.source).whole

pub returns-then-not-keys_rise : goal.returns-then-not-keys_rise
unfolding order_at
returns-then-not-keys_rise c = λ f w. order_source _ _ _ f w _ c.keys_rise.ensures (c.if-not-keys_rise.true)

pub keys_rise-requires-2 : goal.keys_rise-requires-2
keys_rise-requires-2 c = entries_long _ (holds_entries _ _ c.requires.1.target).whole

pub returns-then-not-keys_rise-2 : goal.returns-then-not-keys_rise-2
unfolding order_at
returns-then-not-keys_rise-2 c = λ f w. order_target _ _ _ f w _ c.keys_rise.ensures (c.if-not-keys_rise.false) _ c.keys_rise-2.ensures (c.if-not-keys_rise-2.true)

pub keys_rise-requires-3 : goal.keys_rise-requires-3
keys_rise-requires-3 c = items_long _ (holds_items _ _ c.requires.1.body).whole

pub returns : goal.returns
unfolding order_at
returns c = λ f w. order_body _ _ _ f w _ c.keys_rise.ensures (c.if-not-keys_rise.false) _ c.keys_rise-2.ensures (c.if-not-keys_rise-2.false) _ c.keys_rise-3.ensures
