use native.Mathlib.Omega.{arith}
use mathlib.Core.Path.{refl}
use Rattle.format_fields.proofs.Places.{size_of}
use Rattle.format_language.proofs.Returns.{good_class, good_production, good_neither}
use Rattle.format_language.proofs.entries.entry_good.Goals as goal

pub class_whole-requires : goal.class_whole-requires
class_whole-requires c = (omega (arith, c.requires.past, c.requires.fits), size_of _ _ _ c.requires.is)

pub returns-then-tag-eq-CLASS : goal.returns-then-tag-eq-CLASS
returns-then-tag-eq-CLASS c = good_class _ _ _ refl c.if-tag-eq-CLASS.true _ c.class_whole.ensures

pub production_whole-requires : goal.production_whole-requires
production_whole-requires c = (omega (arith, c.requires.past, c.requires.fits), size_of _ _ _ c.requires.is)

pub returns-then-tag-eq-PRODUCTION : goal.returns-then-tag-eq-PRODUCTION
returns-then-tag-eq-PRODUCTION c = good_production _ _ _ refl c.if-tag-eq-CLASS.false c.if-tag-eq-PRODUCTION.true _ c.production_whole.ensures

pub returns : goal.returns
returns c = good_neither _ _ _ refl c.if-tag-eq-CLASS.false c.if-tag-eq-PRODUCTION.false
