use mathlib.Core.Path.{refl}
use Rattle.format_translation.proofs.Items.{clause_short, clause_result}
use Rattle.format_translation.proofs.body.clause_whole.Goals as goal

pub returns-then-n-lt2 : goal.returns-then-n-lt2
returns-then-n-lt2 c = clause_short _ _ _ _ c.requires.1 refl c.if-n-lt2.true

pub returns : goal.returns
returns c = clause_result _ _ _ _ c.requires.1 refl c.if-n-lt2.false
