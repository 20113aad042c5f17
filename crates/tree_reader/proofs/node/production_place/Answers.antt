use Rattle.tree_reader.proofs.Laws.{place_class, place_short, place_sign, place_in_tree, place_in_code}
use Rattle.tree_reader.proofs.node.production_place.Goals as goal

pub returns-then-class-ne0 : goal.returns-then-class-ne0
returns-then-class-ne0 c = place_class _ _ _ _ _ _ c.if-class-ne0.true

pub returns-then-bytes-at-lt2 : goal.returns-then-bytes-at-lt2
returns-then-bytes-at-lt2 c = place_short _ _ _ _ _ _ c.if-class-ne0.false c.in-Code.is c.if-bytes-at-lt2.true

pub returns-then-bytes-at-ne-NAME : goal.returns-then-bytes-at-ne-NAME
returns-then-bytes-at-ne-NAME c = place_sign _ _ _ _ _ _ c.if-class-ne0.false c.in-Code.is c.if-bytes-at-lt2.false c.if-bytes-at-ne-NAME.true

pub returns-in-Tree : goal.returns-in-Tree
returns-in-Tree c = place_in_tree _ _ _ _ _ _ c.if-class-ne0.false c.in-Tree.is c.name_place.ensures

pub returns-else-bytes-at-ne-NAME : goal.returns-else-bytes-at-ne-NAME
returns-else-bytes-at-ne-NAME c = place_in_code _ _ _ _ _ _ c.if-class-ne0.false c.in-Code.is c.if-bytes-at-lt2.false c.if-bytes-at-ne-NAME.false c.name_place-in-Code.ensures
