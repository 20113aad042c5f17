use Rattle.tree_reader.proofs.Lookup.{put_out_lem, put_not, put_in}
use Rattle.tree_reader.proofs.index.put.Goals as goal

pub returns-then-index-key : goal.returns-then-index-key
returns-then-index-key c = put_out_lem _ _ _ c.if-index-key.true

pub returns-then-index-key-ne0 : goal.returns-then-index-key-ne0
returns-then-index-key-ne0 c = put_not _ _ _ c.if-index-key-ne0.true

pub returns : goal.returns
returns c = put_in _ _ _ c.if-index-key-ne0.false
