use Rattle.tree_reader.proofs.Laws.{past_name, past_token, class_in}
use Rattle.tree_reader.proofs.node.past_tree.Goals as goal

pub returns-then-class-eq0 : goal.returns-then-class-eq0
returns-then-class-eq0 c = (past_name _ _ _ _ _ c.from.ensures c.place_at-class.ensures c.if-class-eq0.true, tt)

pub token-requires : goal.token-requires
token-requires c = (c.requires.inside, class_in _ _ c.requires.sound c.from.ensures c.requires.kind c.place_at-class.ensures)

pub returns : goal.returns
returns c = (past_token _ _ _ _ _ c.from.ensures c.place_at-class.ensures c.if-class-eq0.false c.token.ensures.0, c.token.ensures.1)
