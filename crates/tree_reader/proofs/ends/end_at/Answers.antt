use mathlib.Core.Path.{sym, ◌∙◌}
use Rattle.tree_reader.proofs.Keeping.{kept_there}
use Rattle.tree_reader.proofs.ends.end_at.Goals as goal

pub returns : goal.returns
returns c = kept_there _ _ _ _ _ c.requires.0 (sym c.to_usize.ensures.0 ∙ c.if-to_usize-at.false) c.to_usize-end.ensures.0 c.if-end-eq0.false
