use Rattle.tree_mask.proofs.Masks.{put_short, put_byte}
use Rattle.tree_mask.proofs.walk.put.Goals as goal

pub returns-then-n-out : goal.returns-then-n-out
returns-then-n-out c = put_byte _ _ _ c.if-n-out.true

pub returns-else-n-out : goal.returns-else-n-out
returns-else-n-out c = put_short _ _ _ c.if-n-out.false
