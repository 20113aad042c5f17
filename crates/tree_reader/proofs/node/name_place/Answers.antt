use Rattle.tree_reader.proofs.Laws.{at_key, place_end, place_name}
use Rattle.tree_reader.proofs.node.name_place.Goals as goal

pub returns-then-bytes-at : goal.returns-then-bytes-at
returns-then-bytes-at c = place_end _ _ _ _ c.if-bytes-at.true

pub returns : goal.returns
returns c = place_name _ _ _ _ c.if-bytes-at.false c.from.ensures c.from-2.ensures (at_key c.args.index.now c.place_at.ensures c.production_key.ensures.0)
