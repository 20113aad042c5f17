use Rattle.std.proofs.Common.{arith}
use Rattle.tree_index.proofs.Pairs.{entry_inside}
use Rattle.tree_index.proofs.Comparing.{compare_begin, compare_inside, compare_turn, compare_kind, opens_below, opens_ahead, compare_short, compare_done, start_other, leaf_other, leaf_next, call_other, call_ahead, call_next, last_other, last_next}
use Rattle.tree_index.proofs.compare.+compare_row.Goals as goal

pub loop-q-init : goal.loop-q-init
loop-q-init t c =
    (c.requires.0, λ l ts h. compare_begin c.requires.1 h)

pub returns-in_err-size : goal.returns-in_err-size
returns-in_err-size t c =
    rw c.from_residual.ensures (
      tt,
      λ l ts h.
          let w = c.loop-q.invariant.1 l ts h in
          start_other w c.loop-q-test.true c.in_err-size.ensures,
    )

pub overflow_add-next : goal.overflow_add-next
overflow_add-next t c =
    let w = c.loop-q.invariant.1 c.requires.2.0 c.requires.2.1 c.requires.2.2 in
    let y = compare_inside w in
    omega (arith, c.in_ok-size.ensures.1)

pub bounds-language-q : goal.bounds-language-q
bounds-language-q t c =
    compare_kind (c.loop-q.invariant.1 c.requires.2.0 c.requires.2.1 c.requires.2.2) c.loop-q-test.true

pub operands_at-inner-requires : goal.operands_at-inner-requires
operands_at-inner-requires t c =
    let w = c.loop-q.invariant.1 c.requires.2.0 c.requires.2.1 c.requires.2.2 in
    (c.requires.2.0, (compare_turn w c.loop-q-test.true).head, (compare_turn w c.loop-q-test.true).there)

pub overflow_add-q : goal.overflow_add-q
overflow_add-q t c =
    let w = c.loop-q.invariant.1 c.requires.2.0 c.requires.2.1 c.requires.2.2 in
    let y = compare_kind w c.loop-q-test.true in
    omega arith

pub returns-then-next-to : goal.returns-then-next-to
returns-then-next-to t c = (
  tt,
  λ l ts h.
      let w = c.loop-q.invariant.1 l ts h in
      let p = c.operands_at-inner.ensures l _ (compare_turn w c.loop-q-test.true).there in
      leaf_other w c.loop-q-test.true p _ c.in_ok-size.ensures.0 c.if-inner.true c.if-next-to.true,
)

pub loop-q-smaller-else-next-to : goal.loop-q-smaller-else-next-to
loop-q-smaller-else-next-to t c =
    let w = c.loop-q.invariant.1 c.requires.2.0 c.requires.2.1 c.requires.2.2 in
    let p = c.operands_at-inner.ensures c.requires.2.0 _ (compare_turn w c.loop-q-test.true).there in
    let y = opens_ahead w c.loop-q-test.true p in
    omega (arith, y.0, y.1)

pub loop-q-preserved-else-next-to : goal.loop-q-preserved-else-next-to
loop-q-preserved-else-next-to t c = (
  entry_inside _ _ c.in_ok-size.ensures.0,
  λ l ts h.
      let w = c.loop-q.invariant.1 l ts h in
      let p = c.operands_at-inner.ensures l _ (compare_turn w c.loop-q-test.true).there in
      leaf_next w c.loop-q-test.true p _ c.in_ok-size.ensures.0 c.if-inner.true c.if-next-to.false,
)

pub overflow_sub-levels : goal.overflow_sub-levels
overflow_sub-levels t c =
    let w = c.loop-q.invariant.1 c.requires.2.0 c.requires.2.1 c.requires.2.2 in
    let p = c.operands_at-inner.ensures c.requires.2.0 _ (compare_turn w c.loop-q-test.true).there in
    let y = opens_below w c.loop-q-test.true p c.if-inner.false in
    omega (arith, c.requires.2.3)

pub compare_row-requires : goal.compare_row-requires
compare_row-requires t c =
    let w = c.loop-q.invariant.1 c.requires.2.0 c.requires.2.1 c.requires.2.2 in
    let p = c.operands_at-inner.ensures c.requires.2.0 _ (compare_turn w c.loop-q-test.true).there in
    let y = opens_below w c.loop-q-test.true p c.if-inner.false in
    (omega (arith, c.decreases, c.requires.2.3), (entry_inside _ _ c.in_ok-size.ensures.0, p.kinds, (c.requires.2.0, p.operands, p.row, omega (arith, c.requires.2.3))))

pub returns-in_err-m : goal.returns-in_err-m
returns-in_err-m t c =
    rw c.from_residual-in_err-m.ensures (
      tt,
      λ l ts h.
          let w = c.loop-q.invariant.1 l ts h in
          let p = c.operands_at-inner.ensures l _ (compare_turn w c.loop-q-test.true).there in
          call_other w c.loop-q-test.true p _ c.in_ok-size.ensures.0 (c.in_err-m.ensures.1 l _ p.row),
    )

pub loop-q-smaller-then-q-end : goal.loop-q-smaller-then-q-end
loop-q-smaller-then-q-end t c =
    let w = c.loop-q.invariant.1 c.requires.2.0 c.requires.2.1 c.requires.2.2 in
    let p = c.operands_at-inner.ensures c.requires.2.0 _ (compare_turn w c.loop-q-test.true).there in
    let y = call_ahead w c.loop-q-test.true p _ c.in_ok-size.ensures.0 (c.in_ok-m.ensures.1 c.requires.2.0 _ p.row) in
    omega (arith, y.0, y.1)

pub loop-q-preserved-then-q-end : goal.loop-q-preserved-then-q-end
loop-q-preserved-then-q-end t c = (
  c.in_ok-m.ensures.0,
  λ l ts h.
      let w = c.loop-q.invariant.1 l ts h in
      let p = c.operands_at-inner.ensures l _ (compare_turn w c.loop-q-test.true).there in
      call_next w c.loop-q-test.true p _ c.in_ok-size.ensures.0 (c.in_ok-m.ensures.1 l _ p.row),
)

pub returns-then-next-stop : goal.returns-then-next-stop
returns-then-next-stop t c = (
  tt,
  λ l ts h.
      let w = c.loop-q.invariant.1 l ts h in
      let p = c.operands_at-inner.ensures l _ (compare_turn w c.loop-q-test.true).there in
      last_other w c.loop-q-test.true p _ c.in_ok-size.ensures.0 c.if-q-end.false c.if-next-stop.true,
)

pub loop-q-smaller : goal.loop-q-smaller
loop-q-smaller t c =
    let w = c.loop-q.invariant.1 c.requires.2.0 c.requires.2.1 c.requires.2.2 in
    let p = c.operands_at-inner.ensures c.requires.2.0 _ (compare_turn w c.loop-q-test.true).there in
    let y = opens_ahead w c.loop-q-test.true p in
    omega (arith, y.0, y.1)

pub loop-q-preserved : goal.loop-q-preserved
loop-q-preserved t c = (
  entry_inside _ _ c.in_ok-size.ensures.0,
  λ l ts h.
      let w = c.loop-q.invariant.1 l ts h in
      let p = c.operands_at-inner.ensures l _ (compare_turn w c.loop-q-test.true).there in
      last_next w c.loop-q-test.true p _ c.in_ok-size.ensures.0 c.if-q-end.false c.if-next-stop.false,
)

pub returns-then-to-stop : goal.returns-then-to-stop
returns-then-to-stop t c =
    (tt, λ l ts h. compare_short (c.loop-q.invariant.1 l ts h) c.loop-q-test.false c.if-to-stop.true)

pub returns : goal.returns
returns t c =
    (c.loop-q.invariant.0, λ l ts h. compare_done (c.loop-q.invariant.1 l ts h) c.loop-q-test.false c.if-to-stop.false)
