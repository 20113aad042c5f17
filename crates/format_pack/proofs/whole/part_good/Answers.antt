use mathlib.Core.Path.{refl}
use mathlib.Core.Bool.{false}
use Rattle.format_pack.proofs.Passes.{good_language, good_body, good_term}
use Rattle.format_pack.proofs.whole.part_good.Goals as goal

pub returns-then-tag-eq-LANGUAGE : goal.returns-then-tag-eq-LANGUAGE
returns-then-tag-eq-LANGUAGE c = good_language _ _ _ c.requires.is _ refl _ c.if-tag-eq-LANGUAGE.true c.entries_whole.ensures

pub returns-then-tag-eq-BODY : goal.returns-then-tag-eq-BODY
returns-then-tag-eq-BODY c = good_body _ _ _ c.requires.is _ refl _ c.if-tag-eq-LANGUAGE.false c.if-tag-eq-BODY.true c.body_whole.ensures

pub returns : goal.returns
returns c = good_term _ _ _ c.requires.is _ refl false c.if-tag-eq-LANGUAGE.false c.if-tag-eq-BODY.false
