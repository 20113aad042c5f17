use mathlib.Core.Path.{refl, ◌∙◌}
use native.Mathlib.Omega.{arith}
use Rattle.search_levels.proofs.Needing.{seeks_still}
use Rattle.search_first.proofs.Choosing.{none_start, none_next, choose_here, choose_none}
use Rattle.search_first.proofs.choice.choose.Goals as goal

pub loop-next-init : goal.loop-next-init
loop-next-init c = (c.first_name-next.ensures.0, refl, refl, λ f g h. (h.truthful, none_start _ _ _ _ g _ (c.first_name-next.ensures.1 _ _ _ _ f g h)))

pub name_need-needed-requires : goal.name_need-needed-requires
name_need-needed-requires c = let q = c.requires.1 in let i = rw c.in-Some.is at c.loop-next.invariant in (c.requires.0, i.0.0, i.0.1, (q.0, q.1, seeks_still _ _ _ _ _ _ _ _ _ _ q.0 q.1 q.2 _ _ (i.3 q.0 q.1 q.2).0))

pub returns-then-needed-n : goal.returns-then-needed-n
returns-then-needed-n c = let i = rw c.in-Some.is at c.loop-next.invariant in (i.0, c.name_need-needed.ensures.1 ∙ i.1, c.name_need-needed.ensures.2 ∙ i.2, λ f g h. let w = i.3 f g h in let r = c.name_need-needed.ensures.3 f g (seeks_still _ _ _ _ _ _ _ _ _ _ f g h _ _ w.0) in (r.1, λ t e z. choose_here _ _ _ _ g h.setting.named t e z _ _ w.1 r.0 c.if-needed-n.true))

pub loop-next-smaller : goal.loop-next-smaller
loop-next-smaller c = let i = rw c.in-Some.is at c.loop-next.invariant in rw c.in-Some.is (omega (arith, i.0.0, c.next_name-next.ensures.0))

pub loop-next-preserved : goal.loop-next-preserved
loop-next-preserved c = let i = rw c.in-Some.is at c.loop-next.invariant in (c.next_name-next.ensures.2, c.name_need-needed.ensures.1 ∙ i.1, c.name_need-needed.ensures.2 ∙ i.2, λ f g h. let w = i.3 f g h in let r = c.name_need-needed.ensures.3 f g (seeks_still _ _ _ _ _ _ _ _ _ _ f g h _ _ w.0) in (r.1, none_next _ _ _ _ g _ _ _ w.1 r.0 c.if-needed-n.false (c.next_name-next.ensures.3 _ _ _ _ _ f g h (omega (arith, c.if-needed-n.false)))))

pub returns : goal.returns
returns c = let i = rw c.in_default.is at c.loop-next.invariant in (tt, i.1, i.2, λ f g h. let w = i.3 f g h in (w.0, λ t e z. choose_none _ _ _ _ g h.setting.named t e z w.1))
