use Rattle.tree_reader.proofs.Laws.{place_tree, place_code}
use Rattle.tree_reader.proofs.read.class_place.Goals as goal

pub returns-in-Tree : goal.returns-in-Tree
returns-in-Tree c = place_tree _ _ c.in-Tree.is c.from.ensures c.place_at.ensures

pub returns-in-Code : goal.returns-in-Code
returns-in-Code c = place_code _ _ c.in-Code.is
