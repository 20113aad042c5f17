use Rattle.search_levels.proofs.Ending.{there_ready, ends_there, some_end}
use Rattle.search_levels.proofs.ends.read_end.Goals as goal

pub read_tree-requires : goal.read_tree-requires
read_tree-requires c = there_ready _ _ _ _ _ _ _ c.requires.2

pub unwrap-requires : goal.unwrap-requires
unwrap-requires c = let (l, t, h) = c.requires in some_end _ _ _ _ _ l t h _ (c.read_tree.ensures.is l h.index_of.indexed)

pub returns : goal.returns
returns c = λ l t h. ends_there _ _ _ _ _ l t h _ (c.read_tree.ensures.is l h.index_of.indexed) _ c.unwrap.ensures c.read_tree.ensures.within
