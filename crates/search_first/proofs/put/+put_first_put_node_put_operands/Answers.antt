use mathlib.Core.Path.{refl, ◌∙◌}
use native.Mathlib.Omega.{arith}
use Rattle.search_levels.proofs.Needing.{plain, class_positive, class_whole, seeks_still, name_known, asks_match, name_unmatched, name_seeks, count_inside, count_is, kind_inside, operand_seeks, operand_kind}
use Rattle.search_first.proofs.Choosing.{with_name}
use Rattle.search_first.proofs.Putting.{puts_past, puts_same, token_written, no_levels, one_level, node_put, first_of, unknown_none, go_on, going_start, going_end, going_first, going_next}
use Rattle.search_first.proofs.put.+put_first_put_node_put_operands.Goals as goal

pub put_first-returns-then-limit-pos : goal.put_first-returns-then-limit-pos
put_first-returns-then-limit-pos t c = (omega arith, refl, refl, refl, λ f g h. (h.truthful, λ t z. puts_past _ _ _ _ c.if-limit-pos.true c.requires.1))

pub put_first-token_value-requires : goal.put_first-token_value-requires
put_first-token_value-requires t c = let q = c.requires.2 in (class_positive _ _ _ _ _ _ _ _ _ _ q.0 q.1 q.2 _ c.index_at-class.ensures.0 c.if-class-ne0.true, class_whole _ _ _ _ _ _ _ _ _ _ q.0 q.1 q.2 _ c.index_at-class.ensures.0 c.if-class-ne0.true)

pub put_first-returns-then-class-ne0 : goal.put_first-returns-then-class-ne0
put_first-returns-then-class-ne0 t c = (c.put_value.ensures.0, refl, refl, c.put_value.ensures.1.long, λ f g h. (h.truthful, λ t z. puts_same (token_written _ _ _ _ _ _ _ _ _ _ f g h _ c.index_at-class.ensures.0 c.if-class-ne0.true _ t z c.token_value.ensures.0) c.put_value.ensures.1))

pub put_first-returns-then-n-eq0 : goal.put_first-returns-then-n-eq0
put_first-returns-then-n-eq0 t c = (c.requires.1, refl, refl, refl, λ f g h. (h.truthful, λ t z. absurd (no_levels _ _ _ _ _ _ _ _ _ _ f g h (plain _ _ _ _ _ _ _ _ _ _ f g h _ c.index_at-class.ensures.0 c.if-class-ne0.false) _ c.if-n-eq0.true t z)))

pub put_first-returns-in_default : goal.put_first-returns-in_default
put_first-returns-in_default t c = (c.requires.1, c.choose.ensures.1, c.choose.ensures.2, refl, λ f g h. let w = c.choose.ensures.3 f g h in (w.0, λ t z. let y = one_level _ _ _ _ _ _ _ _ _ _ f g h _ c.if-n-eq0.false t z in let e = w.1 t (plain _ _ _ _ _ _ _ _ _ _ f g h _ c.index_at-class.ensures.0 c.if-class-ne0.false) y in absurd (c.in_default.not-Some e.0 e.1)))

pub put_first-put_node-requires : goal.put_first-put_node-requires
put_first-put_node-requires t c = let q = c.requires.2 in (omega (arith, c.decreases, c.if-n-eq0.false), (omega (arith, c.requires.0), c.in-Some.ensures.0.0, c.in-Some.ensures.0.1, c.put_byte-next.ensures.0, (q.0, q.1, seeks_still _ _ _ _ _ _ _ _ _ _ q.0 q.1 q.2 _ _ (c.in-Some.ensures.3 q.0 q.1 q.2).0)))

pub put_first-returns : goal.put_first-returns
put_first-returns t c = (c.put_node.ensures.0, c.put_node.ensures.1 ∙ c.in-Some.ensures.1, c.put_node.ensures.2 ∙ c.in-Some.ensures.2, c.put_node.ensures.3 ∙ c.put_byte-next.ensures.1.long, λ f g h. let w = c.in-Some.ensures.3 f g h in let r = c.put_node.ensures.4 f g (seeks_still _ _ _ _ _ _ _ _ _ _ f g h _ _ w.0) in (r.0, λ t z. let y = one_level _ _ _ _ _ _ _ _ _ _ f g h _ c.if-n-eq0.false t z in let e = with_name (w.1 t (plain _ _ _ _ _ _ _ _ _ _ f g h _ c.index_at-class.ensures.0 c.if-class-ne0.false) y) in node_put _ _ _ e.0 t _ _ _ _ _ _ c.requires.1 e.1 c.put_byte-next.ensures.1 (r.1 e.0 (first_of e.1 y))))

pub put_node-matches-requires : goal.put_node-matches-requires
put_node-matches-requires t c = let q = c.requires.4 in let n = name_known _ _ _ _ _ _ _ _ _ _ q.0 q.1 q.2 _ c.requires.1 c.requires.2 in (q.0, _, _, n.0, q.1, asks_match _ _ _ _ _ _ _ _ _ _ q.0 q.1 q.2 _ c.requires.1 n.0 n.1 _ _ _ c.index_at-place.ensures.0 c.clause_at-clause.ensures.0 c.production_key-key.ensures.0 _ refl)

pub put_node-returns-then-not-matches : goal.put_node-returns-then-not-matches
put_node-returns-then-not-matches t c = (c.requires.3, refl, refl, refl, λ f g h. let n = name_known _ _ _ _ _ _ _ _ _ _ f g h _ c.requires.1 c.requires.2 in let w = c.matches.ensures f _ _ n.0 g (asks_match _ _ _ _ _ _ _ _ _ _ f g h _ c.requires.1 n.0 n.1 _ _ _ c.index_at-place.ensures.0 c.clause_at-clause.ensures.0 c.production_key-key.ensures.0 _ refl) in (h.truthful, λ s z. absurd (unknown_none _ _ _ _ _ g s (name_unmatched _ _ _ _ _ _ _ _ _ _ f g h _ c.requires.1 n.0 n.1 _ _ _ c.index_at-place.ensures.0 c.clause_at-clause.ensures.0 c.production_key-key.ensures.0 _ _ w _ (c.if-not-matches.true)) z)))

pub put_node-put_operands-requires : goal.put_node-put_operands-requires
put_node-put_operands-requires t c = let q = c.requires.4 in let n = name_known _ _ _ _ _ _ _ _ _ _ q.0 q.1 q.2 _ c.requires.1 c.requires.2 in let w = c.matches.ensures q.0 _ _ n.0 q.1 (asks_match _ _ _ _ _ _ _ _ _ _ q.0 q.1 q.2 _ c.requires.1 n.0 n.1 _ _ _ c.index_at-place.ensures.0 c.clause_at-clause.ensures.0 c.production_key-key.ensures.0 _ refl) in (omega (arith, c.decreases), (c.requires.0, c.requires.3, (q.0, n.0, _, name_seeks _ _ _ _ _ _ _ _ _ _ q.0 q.1 q.2 _ c.requires.1 n.0 n.1 _ _ _ c.index_at-place.ensures.0 c.clause_at-clause.ensures.0 c.production_key-key.ensures.0 _ _ w (c.if-not-matches.false))))

pub put_node-returns : goal.put_node-returns
put_node-returns t c = (c.put_operands.ensures.0, c.put_operands.ensures.1, c.put_operands.ensures.2, c.put_operands.ensures.3, λ f g h. let n = name_known _ _ _ _ _ _ _ _ _ _ f g h _ c.requires.1 c.requires.2 in let w = c.matches.ensures f _ _ n.0 g (asks_match _ _ _ _ _ _ _ _ _ _ f g h _ c.requires.1 n.0 n.1 _ _ _ c.index_at-place.ensures.0 c.clause_at-clause.ensures.0 c.production_key-key.ensures.0 _ refl) in let e = c.if-not-matches.false in let r = c.put_operands.ensures.4 f n.0 _ (name_seeks _ _ _ _ _ _ _ _ _ _ f g h _ c.requires.1 n.0 n.1 _ _ _ c.index_at-place.ensures.0 c.clause_at-clause.ensures.0 c.production_key-key.ensures.0 _ _ w e) in (r.0, λ s z. r.1 s (go_on _ _ _ _ n.0 g (w.holds e).0 _ s n.1 (w.holds e).2 z)))

pub put_operands-overflow_add-place : goal.put_operands-overflow_add-place
put_operands-overflow_add-place t c = let q = c.requires.2 in let x = count_inside _ _ _ _ _ _ _ _ _ _ q.0 q.1 q.2 q.3 in omega arith

pub put_operands-source_at-count-requires : goal.put_operands-source_at-count-requires
put_operands-source_at-count-requires t c = let q = c.requires.2 in count_inside _ _ _ _ _ _ _ _ _ _ q.0 q.1 q.2 q.3

pub put_operands-overflow_sub-count : goal.put_operands-overflow_sub-count
put_operands-overflow_sub-count t c = let q = c.requires.2 in let x = (count_is _ _ _ _ _ _ _ _ _ _ q.0 q.1 q.2 q.3 c.source_at-count.ensures.0).0 in omega arith

pub put_operands-loop-j-init : goal.put_operands-loop-j-init
put_operands-loop-j-init t c = let q = c.requires.2 in let x = count_is _ _ _ _ _ _ _ _ _ _ q.0 q.1 q.2 q.3 c.source_at-count.ensures.0 in (omega (arith, x.0, x.1), c.requires.1, refl, refl, refl, λ f ks b h. let y = (count_is _ _ _ _ _ _ _ _ _ _ f ks b h c.source_at-count.ensures.0).0 in (omega arith, h.truthful, λ s z. going_start _ _ _ ks b _ s _ _ c.requires.1 z))

pub put_operands-first_operand-requires : goal.put_operands-first_operand-requires
put_operands-first_operand-requires t c = let q = c.requires.2 in let x = count_inside _ _ _ _ _ _ _ _ _ _ q.0 q.1 q.2 q.3 in omega arith

pub put_operands-overflow_add-first_operand : goal.put_operands-overflow_add-first_operand
put_operands-overflow_add-first_operand t c = let q = c.requires.2 in let x = count_inside _ _ _ _ _ _ _ _ _ _ q.0 q.1 q.2 q.3 in omega (arith, c.first_operand.ensures, c.loop-j-test.true, c.loop-j.invariant.0)

pub put_operands-source_at-kind-requires : goal.put_operands-source_at-kind-requires
put_operands-source_at-kind-requires t c = let q = c.requires.2 in let w = c.loop-j.invariant.5 q.0 q.1 q.2 q.3 in let y = c.loop-j-test.true in kind_inside _ _ _ _ _ _ _ _ _ _ q.0 q.1 q.2 q.3 _ (omega (arith, w.0, y)) c.first_operand.ensures

pub put_operands-put_first-pos-requires : goal.put_operands-put_first-pos-requires
put_operands-put_first-pos-requires t c = let q = c.requires.2 in let w = c.loop-j.invariant.5 q.0 q.1 q.2 q.3 in let y = c.loop-j-test.true in (omega (arith, c.decreases), (c.requires.0, c.loop-j.invariant.1, (q.0, _, operand_seeks _ _ _ _ _ _ _ _ _ _ q.0 q.1 q.2 q.3 _ (omega (arith, w.0, y)) _ _ w.1 c.first_operand.ensures c.source_at-kind.ensures.0)))

pub put_operands-loop-j-preserved : goal.put_operands-loop-j-preserved
put_operands-loop-j-preserved t c = (c.loop-j.invariant.0, c.put_first-pos.ensures.0, c.put_first-pos.ensures.1 ∙ c.loop-j.invariant.2, c.put_first-pos.ensures.2 ∙ c.loop-j.invariant.3, c.put_first-pos.ensures.3 ∙ c.loop-j.invariant.4, λ f ks b h. let w = c.loop-j.invariant.5 f ks b h in let y = c.loop-j-test.true in let r = c.put_first-pos.ensures.4 f _ (operand_seeks _ _ _ _ _ _ _ _ _ _ f ks b h _ (omega (arith, w.0, y)) _ _ w.1 c.first_operand.ensures c.source_at-kind.ensures.0) in (w.0, r.0, λ s z. let v = w.2 s z in going_next _ _ _ ks b _ s _ _ c.requires.1 _ _ _ v (omega (arith, w.0, y)) _ _ (r.1 _ (going_first _ _ _ ks b _ s _ _ c.requires.1 _ _ _ v (omega (arith, w.0, y)) (operand_kind _ _ _ _ _ _ _ _ _ _ f ks b h _ (omega (arith, w.0, y)) c.first_operand.ensures c.source_at-kind.ensures.0)))))

pub put_operands-returns : goal.put_operands-returns
put_operands-returns t c = (c.loop-j.invariant.1, c.loop-j.invariant.2, c.loop-j.invariant.3, c.loop-j.invariant.4, λ f ks b h. let w = c.loop-j.invariant.5 f ks b h in (w.1, λ s z. going_end _ _ _ ks b _ s _ _ c.requires.1 _ _ _ (w.2 s z) (omega (arith, w.0, c.loop-j-test.false))))
