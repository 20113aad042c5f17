use native.Mathlib.Omega.{arith}
use Rattle.search_levels.proofs.Steps.{argument_there, argument_inside, argument_new, argument_starts, argument_same, argument_other}
use Rattle.search_levels.proofs.clause.argument.Goals as goal

pub end_of-end-requires : goal.end_of-end-requires
end_of-end-requires c = let p = c.requires in (p.0.target, p.3, argument_there _ _ _ _ _ _ _ _ p.0 p.1 p.2 p.3 p.4, p.4.ends)

pub returns-then-tree-start : goal.returns-then-tree-start
returns-then-tree-start c = λ f ks b u h. argument_new _ _ _ _ _ _ _ _ f ks b u h c.if-tree-start.true _ (c.end_of-end.ensures f.target u (argument_there _ _ _ _ _ _ _ _ f ks b u h) h.ends)

pub overflow_sub-end : goal.overflow_sub-end
overflow_sub-end c = let p = c.requires in let e = c.end_of-end.ensures p.0.target p.3 (argument_there _ _ _ _ _ _ _ _ p.0 p.1 p.2 p.3 p.4) p.4.ends in omega arith

pub same_part-requires : goal.same_part-requires
same_part-requires c = let p = c.requires in let e = c.end_of-end.ensures p.0.target p.3 (argument_there _ _ _ _ _ _ _ _ p.0 p.1 p.2 p.3 p.4) p.4.ends in let i = argument_inside _ _ _ _ _ _ _ _ p.0 p.1 p.2 p.3 p.4 in (argument_starts _ _ _ _ _ _ _ _ p.0 p.1 p.2 p.3 p.4 c.if-tree-start.false, omega arith)

pub returns-then-same_part : goal.returns-then-same_part
returns-then-same_part c = λ f ks b u h. argument_same _ _ _ _ _ _ _ _ f ks b u h c.if-tree-start.false _ (c.end_of-end.ensures f.target u (argument_there _ _ _ _ _ _ _ _ f ks b u h) h.ends) (c.same_part.ensures.0 c.if-same_part.true)

pub returns : goal.returns
returns c = λ f ks b u h. argument_other _ _ _ _ _ _ _ _ f ks b u h c.if-tree-start.false _ (c.end_of-end.ensures f.target u (argument_there _ _ _ _ _ _ _ _ f ks b u h) h.ends) (c.same_part.ensures.1 c.if-same_part.false)
