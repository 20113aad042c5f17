use mathlib.Core.Path.{refl, ◌∙◌}
use native.Mathlib.Omega.{arith}
use Rattle.search_levels.proofs.Filling.{filling_start, filling_end, filling_kind, filling_turn, filling_deeper, filling_leaf, filling_next}
use Rattle.search_levels.proofs.ends.+keep_ends.Goals as goal
use Rattle.search_levels.proofs.ends.+keep_ends.Goals.{then-inner, else-inner}

pub loop-q-init : goal.loop-q-init
loop-q-init t c = (refl, λ l ts h. filling_start _ _ _ _ _ _ _ l ts h)

pub bounds-language-q : goal.bounds-language-q
bounds-language-q t c = (filling_kind _ _ _ _ _ _ _ c.requires.1.0 c.requires.1.1 c.requires.0 _ _ _ (c.loop-q.invariant.1 c.requires.1.0 c.requires.1.1 c.requires.1.2) c.loop-q.auto.q c.loop-q-test.true).0

pub operands_at-inner-requires : goal.operands_at-inner-requires
operands_at-inner-requires t c = let v = filling_turn _ _ _ _ _ _ _ c.requires.1.0 c.requires.1.1 c.requires.0 _ _ _ (c.loop-q.invariant.1 c.requires.1.0 c.requires.1.1 c.requires.1.2) c.loop-q.auto.q c.loop-q-test.true in (c.requires.1.0, v.head, v.there)

pub keep_end-requires : goal.keep_end-requires
keep_end-requires t c = (filling_kind _ _ _ _ _ _ _ c.requires.1.0 c.requires.1.1 c.requires.0 _ _ _ (c.loop-q.invariant.1 c.requires.1.0 c.requires.1.1 c.requires.1.2) c.loop-q.auto.q c.loop-q-test.true).1

pub overflow_sub-levels : goal.overflow_sub-levels
overflow_sub-levels t c = let p = c.operands_at-inner.ensures c.requires.1.0 _ (filling_turn _ _ _ _ _ _ _ c.requires.1.0 c.requires.1.1 c.requires.0 _ _ _ (c.loop-q.invariant.1 c.requires.1.0 c.requires.1.1 c.requires.1.2) c.loop-q.auto.q c.loop-q-test.true).there in let y = filling_deeper _ _ _ _ _ _ _ c.requires.1.0 c.requires.1.1 c.requires.0 _ _ _ (c.loop-q.invariant.1 c.requires.1.0 c.requires.1.1 c.requires.1.2) c.loop-q.auto.q c.loop-q-test.true _ _ _ _ refl p c.if-inner.false in let z = c.requires.1.3 in omega arith

pub keep_ends-end-requires : goal.keep_ends-end-requires
keep_ends-end-requires t c = let p = c.operands_at-inner.ensures c.requires.1.0 _ (filling_turn _ _ _ _ _ _ _ c.requires.1.0 c.requires.1.1 c.requires.0 _ _ _ (c.loop-q.invariant.1 c.requires.1.0 c.requires.1.1 c.requires.1.2) c.loop-q.auto.q c.loop-q-test.true).there in let y = filling_deeper _ _ _ _ _ _ _ c.requires.1.0 c.requires.1.1 c.requires.0 _ _ _ (c.loop-q.invariant.1 c.requires.1.0 c.requires.1.1 c.requires.1.2) c.loop-q.auto.q c.loop-q-test.true _ _ _ _ refl p c.if-inner.false in let z = c.requires.1.3 in (omega arith, (p.kinds, (c.requires.1.0, p.operands, p.row, omega arith)))

pub keep_end-requires-else-inner : goal.keep_end-requires-else-inner
keep_end-requires-else-inner t c = (filling_kind _ _ _ _ _ _ _ c.requires.1.0 c.requires.1.1 c.requires.0 _ _ _ (c.loop-q.invariant.1 c.requires.1.0 c.requires.1.1 c.requires.1.2) c.loop-q.auto.q c.loop-q-test.true).1

pub returns : goal.returns
returns t c = λ l ts h. filling_end _ _ _ _ _ _ _ l ts c.requires.0 _ _ _ (c.loop-q.invariant.1 l ts h) c.loop-q-test.false

pub loop-q-preserved : goal.loop-q-preserved
loop-q-preserved t c = (
  c.if-inner.auto.memory ∙ c.loop-q.invariant.0,
  λ l ts h. let u = c.loop-q.invariant.1 l ts h in let p = c.operands_at-inner.ensures l _ (filling_turn _ _ _ _ _ _ _ l ts c.requires.0 _ _ _ u c.loop-q.auto.q c.loop-q-test.true).there in elim c.if-inner.branch [
    | then-inner w ↦ rw (w.memory-is, w.to-is) (filling_leaf _ _ _ _ _ _ _ l ts c.requires.0 _ _ _ u c.loop-q.auto.q c.loop-q-test.true _ _ _ _ refl p w.if-inner.true _ w.keep_end.ensures)
    | else-inner w ↦ rw (w.memory-is, w.to-is) (filling_next _ _ _ _ _ _ _ l ts c.requires.0 _ _ _ u c.loop-q.auto.q c.loop-q-test.true _ _ _ _ refl p _ _ (w.keep_ends-end.ensures l _ p.row) _ w.keep_end-else-inner.ensures)
  ],
)
