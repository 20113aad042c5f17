use Rattle.tree_locate.proofs.Answers.{answer_leftover, answer_whole, answer_refused}
use Rattle.tree_locate.proofs.locate.locate_in.Goals as goal

pub returns-then-e-tree : goal.returns-then-e-tree
returns-then-e-tree c = λ l z. answer_leftover l c.args.kind c.args.tree.now _ (c.read_tree.ensures.is l z) _ c.in-Ok.is c.read_tree.ensures.within c.if-e-tree.true

pub returns-else-e-tree : goal.returns-else-e-tree
returns-else-e-tree c = λ l z. answer_whole l c.args.kind c.args.tree.now _ (c.read_tree.ensures.is l z) _ c.in-Ok.is c.if-e-tree.false

pub returns-in-Err : goal.returns-in-Err
returns-in-Err c = λ l z. rw c.from.ensures (answer_refused l c.args.kind c.args.tree.now _ (c.read_tree.ensures.is l z) c.in-Err.is (c.fault_at-position.ensures l z))
