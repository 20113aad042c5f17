use mathlib.Core.Path.{refl}
use mathlib.Core.Bool.{false}
use Rattle.format_pack.proofs.Passes.{entries_long_in, items_long_in, rises_language, rises_body, rises_term}
use Rattle.format_pack.proofs.order.rises_at.Goals as goal

pub keys_rise-requires : goal.keys_rise-requires
keys_rise-requires c = entries_long_in _ _ _ c.requires.0.is _ refl c.requires.1 c.if-tag-eq-LANGUAGE.true

pub returns-then-tag-eq-LANGUAGE : goal.returns-then-tag-eq-LANGUAGE
returns-then-tag-eq-LANGUAGE c = rises_language _ _ _ c.requires.0.is _ refl _ c.if-tag-eq-LANGUAGE.true c.keys_rise.ensures

pub keys_rise-requires-then-tag-eq-BODY : goal.keys_rise-requires-then-tag-eq-BODY
keys_rise-requires-then-tag-eq-BODY c = items_long_in _ _ _ c.requires.0.is _ refl c.requires.1 c.if-tag-eq-LANGUAGE.false c.if-tag-eq-BODY.true

pub returns-then-tag-eq-BODY : goal.returns-then-tag-eq-BODY
returns-then-tag-eq-BODY c = rises_body _ _ _ c.requires.0.is _ refl _ c.if-tag-eq-LANGUAGE.false c.if-tag-eq-BODY.true c.keys_rise-then-tag-eq-BODY.ensures

pub returns : goal.returns
returns c = rises_term _ _ _ c.requires.0.is _ refl false c.if-tag-eq-LANGUAGE.false c.if-tag-eq-BODY.false
