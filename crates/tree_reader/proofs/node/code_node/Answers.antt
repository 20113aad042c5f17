use Rattle.tree_reader.proofs.Laws.{code_end, code_name, code_leaf_lem}
use Rattle.tree_reader.proofs.node.code_node.Goals as goal

pub returns-then-bytes-at : goal.returns-then-bytes-at
returns-then-bytes-at c = (code_end _ _ _ _ _ _ c.if-bytes-at.true, tt)

pub returns-then-bytes-at-eq-NAME : goal.returns-then-bytes-at-eq-NAME
returns-then-bytes-at-eq-NAME c = (code_name _ _ _ _ _ _ c.if-bytes-at.false c.if-bytes-at-eq-NAME.true c.name.ensures.0, c.name.ensures.1)

pub returns : goal.returns
returns c = (code_leaf_lem _ _ _ _ _ _ c.if-bytes-at.false c.if-bytes-at-eq-NAME.false c.code_leaf.ensures.0, c.code_leaf.ensures.1)
