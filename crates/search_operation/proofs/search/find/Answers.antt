use mathlib.Core.Path.{◌∙◌, refl}
use mathlib.Core.Option.{some}
use Rattle.search_levels.proofs.Needing.{seeks_still}
use Rattle.search_operation.proofs.Found.{find_none}
use Rattle.search_operation.proofs.search.find.Goals as goal

pub need-needed-requires : goal.need-needed-requires
need-needed-requires c = let q = c.requires.1 in (c.requires.0, (q.0, some q.1, q.2))

pub returns-then-limit-needed : goal.returns-then-limit-needed
returns-then-limit-needed c = (c.need-needed.ensures.1, λ f u h w. find_none _ _ _ _ _ _ _ _ _ f u h w _ _ (c.need-needed.ensures.3 f (some u) h).0 _ _ c.if-limit-needed.true refl)

pub write_found-requires : goal.write_found-requires
write_found-requires c = let q = c.requires.1 in let n = c.need-needed.ensures.3 q.0 (some q.1) q.2 in (c.requires.0, (q.0, q.1, seeks_still _ _ _ _ _ _ _ _ _ _ q.0 (some q.1) q.2 _ _ n.1, q.3))

pub returns : goal.returns
returns c = (c.write_found.ensures.0 ∙ c.need-needed.ensures.1, λ f u h w. let n = c.need-needed.ensures.3 f (some u) h in c.write_found.ensures.1 f u (seeks_still _ _ _ _ _ _ _ _ _ _ f (some u) h _ _ n.1) w _ n.0 c.if-limit-needed.false)
