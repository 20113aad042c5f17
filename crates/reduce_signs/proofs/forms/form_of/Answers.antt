use Rattle.reduce_signs.proofs.forms.form_of.Goals as goal

pub returns-in-Language : goal.returns-in-Language
returns-in-Language c = rw c.in-Language.is c.language_form.ensures

pub returns-in-Translation : goal.returns-in-Translation
returns-in-Translation c = rw c.in-Translation.is c.translation_form.ensures
