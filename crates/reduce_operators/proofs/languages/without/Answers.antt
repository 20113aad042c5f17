use Rattle.reduce_operators.proofs.LanguageLaws.{language_sorted, without_given}
use Rattle.reduce_operators.proofs.languages.without.Goals as goal

pub remove-requires : goal.remove-requires
remove-requires c = (language_sorted _ c.requires.0.0 c.requires.0.1, language_sorted _ c.requires.1.0 c.requires.1.1)

pub returns : goal.returns
returns c = λ l m e d. without_given _ _ l m e d _ _ c.remove.auto.out c.requires.2 _ _ c.limited.ensures c.remove.ensures
