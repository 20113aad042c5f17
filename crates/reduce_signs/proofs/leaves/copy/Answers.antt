use Rattle.format_pack.specs.Terms.{languages, translations}
use Rattle.reduce_signs.specs.Inner.Sorts.{sort_of}
use Rattle.format_fields.proofs.Splices.{slice_is}
use mathlib.Core.Path.{ap}
use native.Mathlib.Omega.{arith}
use Rattle.reduce_signs.proofs.Copying.{value_as, copied_as}
use Rattle.reduce_signs.proofs.leaves.copy.Goals as goal

pub language-requires : goal.language-requires
language-requires c = (value_as _ languages _ _ (ap sort_of c.in-Language.is) (slice_is c.args.bytes.now c.args.start c.args.end c.requires.1 c.requires.2) c.requires.0, omega (arith, c.requires.3))

pub translation-requires : goal.translation-requires
translation-requires c = (value_as _ translations _ _ (ap sort_of c.in-Translation.is) (slice_is c.args.bytes.now c.args.start c.args.end c.requires.1 c.requires.2) c.requires.0, omega (arith, c.requires.3))

pub returns-in-Language : goal.returns-in-Language
returns-in-Language c = copied_as (sort_of c.args.sort) languages _ _ _ _ _ (ap sort_of c.in-Language.is) (slice_is c.args.bytes.now c.args.start c.args.end c.requires.1 c.requires.2) c.language.ensures

pub returns-in-Translation : goal.returns-in-Translation
returns-in-Translation c = copied_as (sort_of c.args.sort) translations _ _ _ _ _ (ap sort_of c.in-Translation.is) (slice_is c.args.bytes.now c.args.start c.args.end c.requires.1 c.requires.2) c.translation.ensures
