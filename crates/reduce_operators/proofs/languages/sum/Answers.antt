use Rattle.reduce_operators.proofs.LanguageLaws.{language_sorted, sum_unfit, sum_given, language_rises}
use Rattle.reduce_operators.proofs.languages.sum.Goals as goal

pub languages_fit-requires : goal.languages_fit-requires
languages_fit-requires c = (language_rises _ c.requires.0.0 c.requires.0.1, language_rises _ c.requires.1.0 c.requires.1.1)

pub returns-then-not-languages_fit : goal.returns-then-not-languages_fit
returns-then-not-languages_fit c = λ l m e d. sum_unfit _ _ l m e d _ c.languages_fit.ensures (c.if-not-languages_fit.true) _

pub merge-requires : goal.merge-requires
merge-requires c = (language_sorted _ c.requires.0.0 c.requires.0.1, language_sorted _ c.requires.1.0 c.requires.1.1)

pub returns : goal.returns
returns c = λ l m e d. sum_given _ _ l m e d _ _ c.merge.auto.out c.requires.2 _ _ c.limited.ensures _ c.languages_fit.ensures (c.if-not-languages_fit.false) c.merge.ensures
