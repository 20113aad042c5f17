use mathlib.Core.Path.{◌∙◌}
use Rattle.reduce_merge.proofs.Walks.{same_pieces}
use Rattle.reduce_merge.proofs.meet.same_field.Goals as goal

pub returns : goal.returns
returns c = c.eq.ensures ∙ same_pieces _ _ _ _ _ _ c.whole_end.ensures c.whole_end-2.ensures c.requires.0 c.requires.1
