use Rattle.score_join.proofs.Puts.{head_put}
use Rattle.score_join.proofs.join.put_head.Goals as goal

pub returns : goal.returns
returns c = head_put c.args.size c.args.res c.args.name c.args.output.now c.args.pos c.requires.1 _ c.put_pair.ensures
