use Rattle.std.proofs.Common.{refl, ◌∙◌, arith}
use Rattle.tree_index.proofs.Walking.{walk_begin, walk_done, walk_turn, walk_below, walk_ahead, walk_few, walk_inside, walk_next, leaf_next}
use Rattle.tree_index.proofs.walk.+write_row.Goals as goal
use Rattle.tree_index.proofs.walk.+write_row.Goals.{then-inner, else-inner}

pub loop-q-init : goal.loop-q-init
loop-q-init t c =
    (refl, λ l ts h. walk_begin c.requires.1 h c.requires.0.few)

pub operands_at-inner-requires : goal.operands_at-inner-requires
operands_at-inner-requires t c =
    let w = c.loop-q.invariant.1 c.requires.2.0 c.requires.2.1 c.requires.2.2 in
    (c.requires.2.0, (walk_turn w c.loop-q-test.true).head, (walk_turn w c.loop-q-test.true).there)

pub overflow_add-base : goal.overflow_add-base
overflow_add-base t c =
    let w = c.loop-q.invariant.1 c.requires.2.0 c.requires.2.1 c.requires.2.2 in
    let p = c.operands_at-inner.ensures c.requires.2.0 _ (walk_turn w c.loop-q-test.true).there in
    let y = walk_ahead w c.loop-q-test.true p in
    omega (arith, y.0, y.1, c.requires.0.short)

pub overflow_sub-inner : goal.overflow_sub-inner
overflow_sub-inner t c =
    let w = c.loop-q.invariant.1 c.requires.2.0 c.requires.2.1 c.requires.2.2 in
    let p = c.operands_at-inner.ensures c.requires.2.0 _ (walk_turn w c.loop-q-test.true).there in
    let y = walk_ahead w c.loop-q-test.true p in
    omega (arith, y.0)

pub put_entry-requires : goal.put_entry-requires
put_entry-requires t c =
    let w = c.loop-q.invariant.1 c.requires.2.0 c.requires.2.1 c.requires.2.2 in
    let p = c.operands_at-inner.ensures c.requires.2.0 _ (walk_turn w c.loop-q-test.true).there in
    let y = walk_ahead w c.loop-q-test.true p in
    let f = walk_few w c.loop-q-test.true p in
    (omega (arith, y.0, y.1, c.requires.0.short), omega (arith, y.1, c.requires.0.short), omega arith)

pub overflow_add-m : goal.overflow_add-m
overflow_add-m t c =
    let w = c.loop-q.invariant.1 c.requires.2.0 c.requires.2.1 c.requires.2.2 in
    let p = c.operands_at-inner.ensures c.requires.2.0 _ (walk_turn w c.loop-q-test.true).there in
    let y = walk_ahead w c.loop-q-test.true p in
    let f = walk_few w c.loop-q-test.true p in
    omega arith

pub overflow_add-m-else-inner : goal.overflow_add-m-else-inner
overflow_add-m-else-inner t c =
    let w = c.loop-q.invariant.1 c.requires.2.0 c.requires.2.1 c.requires.2.2 in
    let p = c.operands_at-inner.ensures c.requires.2.0 _ (walk_turn w c.loop-q-test.true).there in
    let y = walk_ahead w c.loop-q-test.true p in
    let f = walk_few w c.loop-q-test.true p in
    omega arith

pub overflow_sub-levels : goal.overflow_sub-levels
overflow_sub-levels t c =
    let w = c.loop-q.invariant.1 c.requires.2.0 c.requires.2.1 c.requires.2.2 in
    let p = c.operands_at-inner.ensures c.requires.2.0 _ (walk_turn w c.loop-q-test.true).there in
    let y = walk_ahead w c.loop-q-test.true p in
    let z = walk_below w c.loop-q-test.true p c.if-inner.false in
    omega (arith, c.requires.2.3)

pub write_row-ends-requires : goal.write_row-ends-requires
write_row-ends-requires t c =
    let w = c.loop-q.invariant.1 c.requires.2.0 c.requires.2.1 c.requires.2.2 in
    let p = c.operands_at-inner.ensures c.requires.2.0 _ (walk_turn w c.loop-q-test.true).there in
    let y = walk_ahead w c.loop-q-test.true p in
    let f = walk_few w c.loop-q-test.true p in
    let z = walk_below w c.loop-q-test.true p c.if-inner.false in
    (omega (arith, c.decreases, c.requires.2.3), (record { short = c.requires.0.short; few = f }, p.kinds, (c.requires.2.0, p.operands, p.row, omega (arith, c.requires.2.3))))

pub overflow_add-base-else-inner : goal.overflow_add-base-else-inner
overflow_add-base-else-inner t c =
    let w = c.loop-q.invariant.1 c.requires.2.0 c.requires.2.1 c.requires.2.2 in
    let p = c.operands_at-inner.ensures c.requires.2.0 _ (walk_turn w c.loop-q-test.true).there in
    let y = walk_ahead w c.loop-q-test.true p in
    omega (arith, y.0, y.1, c.requires.0.short)

pub overflow_sub-ends : goal.overflow_sub-ends
overflow_sub-ends t c =
    let w = c.loop-q.invariant.1 c.requires.2.0 c.requires.2.1 c.requires.2.2 in
    let p = c.operands_at-inner.ensures c.requires.2.0 _ (walk_turn w c.loop-q-test.true).there in
    let y = walk_ahead w c.loop-q-test.true p in
    let r = (c.write_row-ends.ensures c.requires.2.0 _ p.row).trees in
    omega (arith, y.0)

pub put_entry-requires-else-inner : goal.put_entry-requires-else-inner
put_entry-requires-else-inner t c =
    let w = c.loop-q.invariant.1 c.requires.2.0 c.requires.2.1 c.requires.2.2 in
    let p = c.operands_at-inner.ensures c.requires.2.0 _ (walk_turn w c.loop-q-test.true).there in
    let y = walk_ahead w c.loop-q-test.true p in
    let f = walk_few w c.loop-q-test.true p in
    let r = (c.write_row-ends.ensures c.requires.2.0 _ p.row).trees in
    let i = walk_inside w c.loop-q-test.true p in
    (omega (arith, y.0, y.1, c.requires.0.short), omega (arith, c.requires.0.short), omega arith)

pub loop-q-preserved : goal.loop-q-preserved
loop-q-preserved t c =
    elim c.if-inner.branch [
      | then-inner v ↦ rw (v.out-is, v.to-is, v.m-is) (
        v.put_entry.auto.out ∙ c.loop-q.invariant.0,
        λ l ts h.
            let w = c.loop-q.invariant.1 l ts h in
            let p = c.operands_at-inner.ensures l _ (walk_turn w c.loop-q-test.true).there in
            leaf_next w c.loop-q-test.true p v.if-inner.true refl refl v.put_entry.ensures c.loop-q.invariant.0,
      )
      | else-inner v ↦ rw (v.out-is, v.to-is, v.m-is) (
        v.put_entry-else-inner.auto.out ∙ (v.write_row-ends.auto.out ∙ c.loop-q.invariant.0),
        λ l ts h.
            let w = c.loop-q.invariant.1 l ts h in
            let p = c.operands_at-inner.ensures l _ (walk_turn w c.loop-q-test.true).there in
            let r = v.write_row-ends.ensures l _ p.row in
            walk_next w c.loop-q-test.true p r.puts r.trees refl refl v.put_entry-else-inner.ensures c.loop-q.invariant.0 v.write_row-ends.auto.out,
      )
    ]

pub returns : goal.returns
returns t c =
    λ l ts h. walk_done (c.loop-q.invariant.1 l ts h) c.loop-q-test.false refl refl
