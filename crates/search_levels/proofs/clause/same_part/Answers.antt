use Rattle.search_levels.proofs.Lying.{part_same}
use Rattle.search_levels.proofs.clause.same_part.Goals as goal

pub returns : goal.returns
returns c = part_same c.args.tree.now c.args.a c.args.b c.args.n c.eq.ensures
