use mathlib.Core.Path.{refl}
use Rattle.tree_reader.proofs.Built.{put_built, put_around, sub_self}
use Rattle.tree_reader.proofs.index.put_index.Goals as goal

pub returns : goal.returns
returns c = let p = c.requires in let n = sub_self c.args.a in (put_built _ _ _ _ _ _ _ p.1 n refl c.put_all.ensures p.2, put_around _ _ _ _ _ _ _ p.1 n refl c.put_all.ensures)
