use Rattle.reduce_operators.proofs.TranslationLaws.{unfit_given, fit_given}
use Rattle.reduce_operators.proofs.translations.sum_parts.Goals as goal

pub returns-then-not-parts_fit : goal.returns-then-not-parts_fit
returns-then-not-parts_fit c = λ f g p q. unfit_given f g _ (c.parts_fit.ensures f g p q) (c.if-not-parts_fit.true) _

pub returns : goal.returns
returns c = λ f g p q. fit_given f g _ (c.parts_fit.ensures f g p q) (c.if-not-parts_fit.false) _ _ _ (λ h. c.unite.ensures f g p q h)
