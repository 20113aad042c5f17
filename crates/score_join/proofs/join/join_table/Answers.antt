use mathlib.Core.Path.{◌∙◌}
use Rattle.score_join.proofs.Answering.{join_is}
use Rattle.score_join.proofs.join.join_table.Goals as goal

pub returns : goal.returns
returns c = let a = join_is _ _ _ c.join_files.ensures in (c.from.ensures ∙ a.0, a.1)
