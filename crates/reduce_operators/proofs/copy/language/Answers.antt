use mathlib.Core.Path.{◌∙◌}
use Rattle.reduce_operators.proofs.Given.{slice_whole}
use Rattle.reduce_operators.proofs.Accepted.{language_written, language_copied}
use Rattle.reduce_operators.proofs.copy.language.Goals as goal

pub returns : goal.returns
returns c = λ l e. language_copied _ _ c.put.auto.out _ _ l _ (slice_whole c.args.a.now ∙ language_written _ l e) c.requires.1 c.put.ensures c.limited.ensures
