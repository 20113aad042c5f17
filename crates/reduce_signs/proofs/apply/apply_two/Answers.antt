use native.Mathlib.Omega.{arith}
use Rattle.reduce_signs.proofs.Copying.{two_asks, two_gives}
use Rattle.reduce_signs.proofs.apply.apply_two.Goals as goal

pub without-requires : goal.without-requires
without-requires c = let k = two_asks _ _ c.in-LanguageWithout.is c.requires.0 in (k.0, k.1, omega (arith, c.requires.1))

pub sum-requires : goal.sum-requires
sum-requires c = let k = two_asks _ _ c.in-LanguageSum.is c.requires.0 in (k.0, k.1, omega (arith, c.requires.1))

pub without-requires-in-TranslationWithout : goal.without-requires-in-TranslationWithout
without-requires-in-TranslationWithout c = let k = two_asks _ _ c.in-TranslationWithout.is c.requires.0 in (k.0, k.1, omega (arith, c.requires.1))

pub sum-requires-in-TranslationSum : goal.sum-requires-in-TranslationSum
sum-requires-in-TranslationSum c = let k = two_asks _ _ c.in-TranslationSum.is c.requires.0 in (k.0, k.1, omega (arith, c.requires.1))

pub join-requires : goal.join-requires
join-requires c = let k = two_asks _ _ c.in-Join.is c.requires.0 in (k.0, k.1, omega (arith, c.requires.1))

pub returns-in-LanguageWithout : goal.returns-in-LanguageWithout
returns-in-LanguageWithout c = two_gives _ _ _ _ _ c.in-LanguageWithout.is c.without.ensures

pub returns-in-LanguageSum : goal.returns-in-LanguageSum
returns-in-LanguageSum c = two_gives _ _ _ _ _ c.in-LanguageSum.is c.sum.ensures

pub returns-in-TranslationWithout : goal.returns-in-TranslationWithout
returns-in-TranslationWithout c = two_gives _ _ _ _ _ c.in-TranslationWithout.is c.without-in-TranslationWithout.ensures

pub returns-in-TranslationSum : goal.returns-in-TranslationSum
returns-in-TranslationSum c = two_gives _ _ _ _ _ c.in-TranslationSum.is c.sum-in-TranslationSum.ensures

pub returns-in-Join : goal.returns-in-Join
returns-in-Join c = two_gives _ _ _ _ _ c.in-Join.is c.join.ensures
