use native.Mathlib.Omega.{arith}
use Rattle.search_levels.proofs.Needing.{class_inside, value_low, value_there}
use Rattle.search_levels.proofs.levels.token_value.Goals as goal

pub overflow_add-class : goal.overflow_add-class
overflow_add-class c = let x = class_inside _ _ c.requires.0 c.requires.1 in omega arith

pub pair_in-requires : goal.pair_in-requires
pair_in-requires c = let x = class_inside _ _ c.requires.0 c.requires.1 in omega arith

pub returns-then-tree-at : goal.returns-then-tree-at
returns-then-tree-at c = (value_low _ _ _ _ c.if-tree-at.true c.pair_in.ensures.0, c.pair_in.ensures.1)

pub returns : goal.returns
returns c = (value_there _ _ _ _ c.if-tree-at.false c.pair_at.ensures.0, c.pair_at.ensures.1)
