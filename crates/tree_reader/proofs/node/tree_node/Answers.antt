use Rattle.tree_reader.proofs.Laws.{tree_name, tree_token, class_in}
use Rattle.tree_reader.proofs.node.tree_node.Goals as goal

pub returns-then-place-eq0 : goal.returns-then-place-eq0
returns-then-place-eq0 c = (tree_name _ _ _ _ _ c.from.ensures c.place_at-place.ensures c.if-place-eq0.true c.name.ensures.0, c.name.ensures.1)

pub token-requires : goal.token-requires
token-requires c = (c.requires.inside, class_in _ _ c.requires.sound c.from.ensures c.requires.kind c.place_at-place.ensures)

pub returns : goal.returns
returns c = (tree_token _ _ _ _ _ c.from.ensures c.place_at-place.ensures c.if-place-eq0.false c.token.ensures.0, c.token.ensures.1)
