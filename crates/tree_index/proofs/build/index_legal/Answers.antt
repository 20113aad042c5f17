use Rattle.tree_index.proofs.Building.{legal_room, legal_short, legal_put}
use Rattle.tree_index.proofs.build.index_legal.Goals as goal

pub returns-then-tree-output : goal.returns-then-tree-output
returns-then-tree-output c = λ l t h.
    let w = c.write_index.ensures l t h in
    legal_put t _ _ w.0 (legal_room _ _ _ _ l t h c.args.output.now _ w.0 c.if-tree-output.true) _ _ w

pub returns-then-output-length : goal.returns-then-output-length
returns-then-output-length c = λ l t h. legal_short t _ _ (c.write_index-length.ensures l t h).0 c.if-output-length.true

pub returns : goal.returns
returns c = λ l t h. legal_put t _ _ (c.write_index-length.ensures l t h).0 c.if-output-length.false _ _ (c.write_index-2.ensures l t h)
