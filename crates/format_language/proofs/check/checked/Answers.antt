use Rattle.format_fields.specs.Inner.Places.{order_at}
use mathlib.Core.Path.{sym, ◌∙◌, refl}
use Rattle.format_language.proofs.Facts.{entries_long}
use Rattle.format_language.proofs.Holds.{entries_there}
use Rattle.format_language.proofs.Chain.{too_long, broken, out_of_order, clash, accepted}
use Rattle.format_language.proofs.check.checked.Goals as goal

pub returns-then-language-gt-LANGUAGE_LIMIT : goal.returns-then-language-gt-LANGUAGE_LIMIT
returns-then-language-gt-LANGUAGE_LIMIT c = refl ∙ too_long _ c.if-language-gt-LANGUAGE_LIMIT.true

pub returns-then-not-entries_whole : goal.returns-then-not-entries_whole
returns-then-not-entries_whole c = refl ∙ broken _ c.if-language-gt-LANGUAGE_LIMIT.false _ c.entries_whole.ensures (c.if-not-entries_whole.true)

pub keys_rise-requires : goal.keys_rise-requires
keys_rise-requires c = entries_long _ (entries_there _ ∙ sym c.entries_whole.ensures ∙ c.if-not-entries_whole.false)

pub result_is_class-requires : goal.result_is_class-requires
unfolding order_at
result_is_class-requires c = record { whole = entries_there _ ∙ sym c.entries_whole.ensures ∙ c.if-not-entries_whole.false; rises = sym c.keys_rise.ensures ∙ c.if-not-keys_rise.false }

pub returns-then-not-keys_rise : goal.returns-then-not-keys_rise
unfolding order_at
returns-then-not-keys_rise c = refl ∙ out_of_order _ c.if-language-gt-LANGUAGE_LIMIT.false _ c.entries_whole.ensures (c.if-not-entries_whole.false) _ c.keys_rise.ensures (c.if-not-keys_rise.true)

pub returns-then-result_is_class : goal.returns-then-result_is_class
unfolding order_at
returns-then-result_is_class c = refl ∙ clash _ c.if-language-gt-LANGUAGE_LIMIT.false _ c.entries_whole.ensures (c.if-not-entries_whole.false) _ c.keys_rise.ensures (c.if-not-keys_rise.false) _ c.result_is_class.ensures c.if-result_is_class.true

pub returns : goal.returns
unfolding order_at
returns c = refl ∙ accepted _ c.if-language-gt-LANGUAGE_LIMIT.false _ c.entries_whole.ensures (c.if-not-entries_whole.false) _ c.keys_rise.ensures (c.if-not-keys_rise.false) _ c.result_is_class.ensures c.if-result_is_class.false
