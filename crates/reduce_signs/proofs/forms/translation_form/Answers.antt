use Rattle.reduce_signs.proofs.Unknown.{no_translation_sign}
use Rattle.reduce_signs.proofs.forms.translation_form.Goals as goal

pub returns-in_default : goal.returns-in_default
returns-in_default c = λ reads bytes. no_translation_sign reads _ bytes c.in_default.in_default-own.rest
