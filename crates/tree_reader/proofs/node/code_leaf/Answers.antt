use Rattle.tree_reader.proofs.Laws.{leaf_end, leaf_argument}
use Rattle.tree_reader.proofs.node.code_leaf.Goals as goal

pub returns-then-bytes-at : goal.returns-then-bytes-at
returns-then-bytes-at c = (leaf_end _ _ _ _ _ _ c.if-bytes-at.true, tt)

pub returns-then-bytes-at-eq-ARGUMENT : goal.returns-then-bytes-at-eq-ARGUMENT
returns-then-bytes-at-eq-ARGUMENT c = (leaf_argument _ _ _ _ _ _ c.if-bytes-at.false c.if-bytes-at-eq-ARGUMENT.true c.argument.ensures.0, c.argument.ensures.1)

pub returns : goal.returns
returns c = (c.other_leaf.ensures.0 c.if-bytes-at-eq-ARGUMENT.false, c.other_leaf.ensures.1)
