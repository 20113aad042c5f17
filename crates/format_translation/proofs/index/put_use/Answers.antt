use Rattle.tree_reader.proofs.Lookup.{put_not, put_in}
use Rattle.format_translation.proofs.index.put_use.Goals as goal

pub returns-then-uses-key-ne0 : goal.returns-then-uses-key-ne0
returns-then-uses-key-ne0 c = put_not _ _ _ c.if-uses-key-ne0.true

pub returns : goal.returns
returns c = put_in _ _ _ c.if-uses-key-ne0.false
