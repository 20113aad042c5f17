use mathlib.Core.Path.{refl}
use native.Mathlib.Omega.{arith}
use Rattle.search_levels.proofs.Naming.{up_to_few}
use Rattle.search_levels.proofs.Needing.{name_known, asks_match, without_start, without_next}
use Rattle.search_levels.proofs.names.candidate.Goals as goal

pub loop-next-init : goal.loop-next-init
loop-next-init c = (omega arith, c.requires.0, λ target places kinds memory free f g h. without_start _ _ _ g _)

pub production_key-requires : goal.production_key-requires
production_key-requires c = let w = rw c.in-Some.is at c.loop-next.invariant in (c.requires.1.7.kind, w.1.0)

pub root_differs-requires : goal.root_differs-requires
root_differs-requires c = let q = c.requires.1 in let w = rw c.in-Some.is at c.loop-next.invariant in let n = name_known _ _ _ _ _ _ _ _ _ _ q.5 q.6 q.7 _ w.1.0 w.1.1 in (q.0, q.1, q.2, q.3, _, _, q.5, _, _, n.0, q.6, asks_match _ _ _ _ _ _ _ _ _ _ q.5 q.6 q.7 _ w.1.0 n.0 n.1 _ _ _ refl c.clause_at.ensures.0 c.production_key.ensures.0 _ refl)

pub returns-then-not-root_differs : goal.returns-then-not-root_differs
returns-then-not-root_differs c = rw c.in-Some.is at c.loop-next.invariant

pub name_behind-next-requires : goal.name_behind-next-requires
name_behind-next-requires c = let w = rw c.in-Some.is at c.loop-next.invariant in (c.requires.1.7.kind, w.1.0, w.1.1.there w.1.0, c.requires.1.7.setting.filed)

pub loop-next-smaller : goal.loop-next-smaller
loop-next-smaller c = let w = rw c.in-Some.is at c.loop-next.invariant in rw c.in-Some.is (omega (arith, w.1.0, c.name_behind-next.ensures.0))

pub loop-next-preserved : goal.loop-next-preserved
loop-next-preserved c = let w = rw c.in-Some.is at c.loop-next.invariant in (omega (arith, w.0, c.name_behind-next.ensures.0), c.name_behind-next.ensures.1, λ target places kinds memory free f g h. let n = name_known _ _ target places kinds _ memory free _ _ f g h _ w.1.0 w.1.1 in without_next _ _ target places kinds _ memory free _ _ f g h _ w.1.0 n.0 n.1 _ _ _ refl c.clause_at.ensures.0 c.production_key.ensures.0 _ (c.root_differs.ensures (c.if-not-root_differs.false) target places kinds memory _ _ f _ _ n.0 g (asks_match _ _ target places kinds _ memory free _ _ f g h _ w.1.0 n.0 n.1 _ _ _ refl c.clause_at.ensures.0 c.production_key.ensures.0 _ refl)) _ _ c.name_behind-next.ensures.0 (up_to_few _ _ _ c.name_behind-next.ensures.1) c.name_behind-next.ensures.2 (w.2 target places kinds memory free f g h))

pub returns : goal.returns
returns c = rw c.in_default.is at c.loop-next.invariant
