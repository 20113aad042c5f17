use mathlib.Core.Path.{◌∙◌, refl}
use mathlib.Core.Option.{some}
use native.Mathlib.Omega.{arith}
use Rattle.search_levels.proofs.Needing.{seeks_still}
use Rattle.search_operation.proofs.Found.{find_long, find_there}
use Rattle.search_operation.proofs.search.write_found.Goals as goal

pub put_first-n-requires : goal.put_first-n-requires
put_first-n-requires c = let q = c.requires.1 in (c.requires.0, omega arith, (q.0, some q.1, q.2))

pub returns-then-room-n : goal.returns-then-room-n
returns-then-room-n c = (c.put_first-n.ensures.1, λ f u h w needed n within. find_long _ _ _ _ _ _ _ _ _ f u h w _ needed n within _ _ _ _ (c.put_first-n.ensures.4 f (some u) h).1 _ c.if-room-n.true refl)

pub put_first-requires : goal.put_first-requires
put_first-requires c = let q = c.requires.1 in let r = c.put_first-n.ensures.4 q.0 (some q.1) q.2 in (c.requires.0, omega arith, (q.0, some q.1, seeks_still _ _ _ _ _ _ _ _ _ _ q.0 (some q.1) q.2 _ _ r.0))

pub returns : goal.returns
returns c = (c.put_first.ensures.1 ∙ c.put_first-n.ensures.1, λ f u h w needed n within. let r = c.put_first-n.ensures.4 f (some u) h in let v = c.put_first.ensures.4 f (some u) (seeks_still _ _ _ _ _ _ _ _ _ _ f (some u) h _ _ r.0) in find_there _ _ _ _ _ _ _ _ _ f u h w _ needed n within _ _ _ _ r.1 _ _ _ c.if-room-n.false v.1 refl)
