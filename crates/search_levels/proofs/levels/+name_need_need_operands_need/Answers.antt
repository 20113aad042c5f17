use mathlib.Core.Path.{refl, ◌∙◌}
use native.Mathlib.Omega.{arith}
use Rattle.search_levels.proofs.Truths.{kept_long, ap_long, same_truth}
use Rattle.search_levels.proofs.Needing.{recall_true, plain, class_positive, class_whole, class_needs, zero_levels, all_names, seeks_still, keeps_true, names_start, names_next, name_known, asks_match, name_unmatched, name_seeks, name_needs, count_inside, count_is, kind_inside, operand_seeks, operand_kind, operands_start, operands_next, operands_stop, operands_end}
use Rattle.search_levels.proofs.levels.+name_need_need_operands_need.Goals as goal

pub name_need-matches-requires : goal.name_need-matches-requires
name_need-matches-requires t c = let q = c.requires in let n = name_known _ _ _ _ _ _ _ _ _ _ q.3.0 q.3.1 q.3.2 _ q.1 q.2 in (q.3.0, _, _, n.0, q.3.1, asks_match _ _ _ _ _ _ _ _ _ _ q.3.0 q.3.1 q.3.2 _ q.1 n.0 n.1 _ _ _ c.index_at-place.ensures.0 c.clause_at.ensures.0 c.production_key-key.ensures.0 _ refl)

pub name_need-returns-then-not-matches : goal.name_need-returns-then-not-matches
name_need-returns-then-not-matches t c = (omega arith, refl, refl, λ f g h. let n = name_known _ _ _ _ _ _ _ _ _ _ f g h _ c.requires.1 c.requires.2 in let w = c.matches.ensures f _ _ n.0 g (asks_match _ _ _ _ _ _ _ _ _ _ f g h _ c.requires.1 n.0 n.1 _ _ _ c.index_at-place.ensures.0 c.clause_at.ensures.0 c.production_key-key.ensures.0 _ refl) in (name_unmatched _ _ _ _ _ _ _ _ _ _ f g h _ c.requires.1 n.0 n.1 _ _ _ c.index_at-place.ensures.0 c.clause_at.ensures.0 c.production_key-key.ensures.0 _ _ w _ (c.if-not-matches.true), h.truthful))

pub name_need-operands_need-requires : goal.name_need-operands_need-requires
name_need-operands_need-requires t c = let q = c.requires in let n = name_known _ _ _ _ _ _ _ _ _ _ q.3.0 q.3.1 q.3.2 _ q.1 q.2 in let w = c.matches.ensures q.3.0 _ _ n.0 q.3.1 (asks_match _ _ _ _ _ _ _ _ _ _ q.3.0 q.3.1 q.3.2 _ q.1 n.0 n.1 _ _ _ c.index_at-place.ensures.0 c.clause_at.ensures.0 c.production_key-key.ensures.0 _ refl) in (omega (arith, c.decreases), (q.0, (q.3.0, n.0, _, name_seeks _ _ _ _ _ _ _ _ _ _ q.3.0 q.3.1 q.3.2 _ q.1 n.0 n.1 _ _ _ c.index_at-place.ensures.0 c.clause_at.ensures.0 c.production_key-key.ensures.0 _ _ w (c.if-not-matches.false))))

pub name_need-returns : goal.name_need-returns
name_need-returns t c = (c.operands_need.ensures.0, c.operands_need.ensures.1, c.operands_need.ensures.2, λ f g h. let n = name_known _ _ _ _ _ _ _ _ _ _ f g h _ c.requires.1 c.requires.2 in let w = c.matches.ensures f _ _ n.0 g (asks_match _ _ _ _ _ _ _ _ _ _ f g h _ c.requires.1 n.0 n.1 _ _ _ c.index_at-place.ensures.0 c.clause_at.ensures.0 c.production_key-key.ensures.0 _ refl) in let r = c.operands_need.ensures.3 f n.0 _ (name_seeks _ _ _ _ _ _ _ _ _ _ f g h _ c.requires.1 n.0 n.1 _ _ _ c.index_at-place.ensures.0 c.clause_at.ensures.0 c.production_key-key.ensures.0 _ _ w (c.if-not-matches.false)) in (name_needs _ _ _ _ _ _ _ _ _ _ f g h _ c.requires.1 n.0 n.1 _ _ _ c.index_at-place.ensures.0 c.clause_at.ensures.0 c.production_key-key.ensures.0 _ _ w (c.if-not-matches.false) _ _ r.0, r.1))

pub need-class_need-requires : goal.need-class_need-requires
need-class_need-requires t c = let q = c.requires.1 in (class_positive _ _ _ _ _ _ _ _ _ _ q.0 q.1 q.2 _ c.index_at-class.ensures.0 c.if-class-ne0.true, class_whole _ _ _ _ _ _ _ _ _ _ q.0 q.1 q.2 _ c.index_at-class.ensures.0 c.if-class-ne0.true, c.requires.0)

pub need-returns-then-class-ne0 : goal.need-returns-then-class-ne0
need-returns-then-class-ne0 t c = let q = c.requires.1 in ((class_needs _ _ _ _ _ _ _ _ _ _ q.0 q.1 q.2 _ c.index_at-class.ensures.0 c.if-class-ne0.true _ c.class_need.ensures).bound, refl, refl, λ f g h. (class_needs _ _ _ _ _ _ _ _ _ _ f g h _ c.index_at-class.ensures.0 c.if-class-ne0.true _ c.class_need.ensures, h.truthful))

pub need-returns-then-m-eq0 : goal.need-returns-then-m-eq0
need-returns-then-m-eq0 t c = (omega arith, refl, refl, λ f g h. (zero_levels _ _ _ _ _ _ _ _ _ _ f g h (plain _ _ _ _ _ _ _ _ _ _ f g h _ c.index_at-class.ensures.0 c.if-class-ne0.false) _ c.if-m-eq0.true, h.truthful))

pub operands_need-overflow_add-place : goal.operands_need-overflow_add-place
operands_need-overflow_add-place t c = let q = c.requires.1 in let x = count_inside _ _ _ _ _ _ _ _ _ _ q.0 q.1 q.2 q.3 in omega arith

pub operands_need-loop-j-init : goal.operands_need-loop-j-init
operands_need-loop-j-init t c = let q = c.requires.1 in let x = count_is _ _ _ _ _ _ _ _ _ _ q.0 q.1 q.2 q.3 c.source_at-count.ensures.0 in (omega (arith, x.0, x.1), omega arith, refl, refl, λ f ks b h. let y = (count_is _ _ _ _ _ _ _ _ _ _ f ks b h c.source_at-count.ensures.0).0 in (omega arith, operands_start _ _ _ ks b _ (omega arith), h.truthful))

pub operands_need-first_operand-requires : goal.operands_need-first_operand-requires
operands_need-first_operand-requires t c = let q = c.requires.1 in let x = count_inside _ _ _ _ _ _ _ _ _ _ q.0 q.1 q.2 q.3 in omega arith

pub operands_need-overflow_add-first_operand : goal.operands_need-overflow_add-first_operand
operands_need-overflow_add-first_operand t c = let q = c.requires.1 in let x = count_inside _ _ _ _ _ _ _ _ _ _ q.0 q.1 q.2 q.3 in omega (arith, c.first_operand.ensures, c.loop-j.invariant.0)

pub operands_need-source_at-kind-requires : goal.operands_need-source_at-kind-requires
operands_need-source_at-kind-requires t c = let q = c.requires.1 in let w = c.loop-j.invariant.4 q.0 q.1 q.2 q.3 in let y = c.loop-j-test.true in kind_inside _ _ _ _ _ _ _ _ _ _ q.0 q.1 q.2 q.3 _ (omega (arith, w.0, y)) c.first_operand.ensures

pub operands_need-need-n-requires : goal.operands_need-need-n-requires
operands_need-need-n-requires t c = let q = c.requires.1 in let w = c.loop-j.invariant.4 q.0 q.1 q.2 q.3 in let y = c.loop-j-test.true in (omega (arith, c.decreases), (c.requires.0, (q.0, _, operand_seeks _ _ _ _ _ _ _ _ _ _ q.0 q.1 q.2 q.3 _ (omega (arith, w.0, y)) _ _ w.2 c.first_operand.ensures c.source_at-kind.ensures.0)))

pub operands_need-returns-then-m-n : goal.operands_need-returns-then-m-n
operands_need-returns-then-m-n t c = (omega arith, c.need-n.ensures.1 ∙ c.loop-j.invariant.2, c.need-n.ensures.2 ∙ c.loop-j.invariant.3, λ f ks b h. let w = c.loop-j.invariant.4 f ks b h in let y = c.loop-j-test.true in let r = c.need-n.ensures.3 f _ (operand_seeks _ _ _ _ _ _ _ _ _ _ f ks b h _ (omega (arith, w.0, y)) _ _ w.2 c.first_operand.ensures c.source_at-kind.ensures.0) in (operands_stop _ _ _ ks b _ _ _ (omega (arith, w.0, y)) (operand_kind _ _ _ _ _ _ _ _ _ _ f ks b h _ (omega (arith, w.0, y)) c.first_operand.ensures c.source_at-kind.ensures.0) r.0 c.if-m-n.true, r.1))

pub operands_need-loop-j-preserved : goal.operands_need-loop-j-preserved
operands_need-loop-j-preserved t c = (omega (arith, c.loop-j.invariant.0), omega (arith, c.max-most.ensures, c.need-n.ensures.0, c.loop-j.invariant.1), c.need-n.ensures.1 ∙ c.loop-j.invariant.2, c.need-n.ensures.2 ∙ c.loop-j.invariant.3, λ f ks b h. let w = c.loop-j.invariant.4 f ks b h in let y = c.loop-j-test.true in let r = c.need-n.ensures.3 f _ (operand_seeks _ _ _ _ _ _ _ _ _ _ f ks b h _ (omega (arith, w.0, y)) _ _ w.2 c.first_operand.ensures c.source_at-kind.ensures.0) in (omega (arith, w.0), operands_next _ _ _ ks b _ _ _ _ _ y w.0 (operand_kind _ _ _ _ _ _ _ _ _ _ f ks b h _ (omega (arith, w.0, y)) c.first_operand.ensures c.source_at-kind.ensures.0) r.0 w.1 c.max-most.ensures, r.1))

pub operands_need-returns : goal.operands_need-returns
operands_need-returns t c = (c.loop-j.invariant.1, c.loop-j.invariant.2, c.loop-j.invariant.3, λ f ks b h. let w = c.loop-j.invariant.4 f ks b h in (operands_end _ _ _ ks b _ _ (omega (arith, c.loop-j-test.false)) w.1, w.2))

pub need-returns-in-Some : goal.need-returns-in-Some
need-returns-in-Some t c = let q = c.requires.1 in let e = c.in-Some.ensures in ((recall_true _ _ _ _ _ _ _ _ _ _ q.0 q.1 q.2 _ c.requires.0 e).bound, refl, refl, λ f g h. (recall_true _ _ _ _ _ _ _ _ _ _ f g h _ c.requires.0 e, h.truthful))

pub need-loop-next-init : goal.need-loop-next-init
need-loop-next-init t c = ((omega arith, λ z. omega (arith, c.if-m-eq0.false)), refl, refl, c.first_name-next.ensures.0, λ f g h. (names_start _ _ _ _ g _ c.if-m-eq0.false (c.first_name-next.ensures.1 _ _ _ _ f g h), h.truthful))

pub need-loop-next-preserved : goal.need-loop-next-preserved
need-loop-next-preserved t c = let i = rw c.in-Some-next.is at c.loop-next.invariant in let few = i.0.1 i.3.0 in ((omega (arith, c.name_need-best.ensures.0, i.0.0, few), c.next_name-next.ensures.1), c.name_need-best.ensures.1 ∙ i.1, c.name_need-best.ensures.2 ∙ i.2, c.next_name-next.ensures.2, λ f g h. let w = i.4 f g h in let r = c.name_need-best.ensures.3 f g (seeks_still _ _ _ _ _ _ _ _ _ _ f g h _ _ w.1) in (names_next _ _ _ _ g _ _ _ _ few w.0 r.0 c.next_name-next.ensures.0 (λ z. c.next_name-next.ensures.3 _ _ _ _ _ f g h z), r.1))

pub need-returns : goal.need-returns
need-returns t c = let i = rw c.in_default-next.is at c.loop-next.invariant in let k = kept_long _ _ _ _ _ _ in (omega (arith, i.0.0), ap_long c.keep.ensures.0 k.0 ∙ i.1, ap_long c.keep.ensures.1 k.1 ∙ i.2, λ f g h. let w = i.4 f g h in let n = all_names _ _ _ _ _ _ _ _ _ _ f g h (plain _ _ _ _ _ _ _ _ _ _ f g h _ c.index_at-class.ensures.0 c.if-class-ne0.false) _ c.if-m-eq0.false _ _ refl w.0 in (n, same_truth c.keep.ensures.0 c.keep.ensures.1 (keeps_true _ _ _ _ _ _ _ _ _ _ f g h _ _ w.1 _ _ c.requires.0 n)))
