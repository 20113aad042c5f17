use Rattle.std.proofs.Common.{refl, arith}
use Rattle.tree_block.proofs.Steps.{walk_done, walk_here, walk_inside, walk_entry, size_read, walk_splits, walk_on}
use Rattle.tree_block.proofs.descent.argument_among.Goals as goal

pub loop-q-init : goal.loop-q-init
loop-q-init c =
    (c.requires.0, λ x b l ts h. record { others = ts; row = h; same = refl })

pub returns-then-left-eq1 : goal.returns-then-left-eq1
returns-then-left-eq1 c =
    λ x b l ts h. walk_here (c.loop-q.invariant.1 x b l ts h) c.requires.1 c.loop-q.auto.q c.loop-q-test.true c.if-left-eq1.true

pub overflow_add-p : goal.overflow_add-p
overflow_add-p c =
    let w = c.loop-q.invariant.1 c.requires.2.0 c.requires.2.1 c.requires.2.2 c.requires.2.3 c.requires.2.4 in
    let y = (walk_entry w c.requires.1 c.loop-q.auto.q c.loop-q-test.true).1.inside in
    omega arith

pub pair_in-start-requires : goal.pair_in-start-requires
pair_in-start-requires c =
    let w = c.loop-q.invariant.1 c.requires.2.0 c.requires.2.1 c.requires.2.2 c.requires.2.3 c.requires.2.4 in
    let y = (walk_entry w c.requires.1 c.loop-q.auto.q c.loop-q-test.true).1.inside in
    omega arith

pub overflow_add-start : goal.overflow_add-start
overflow_add-start c =
    let w = c.loop-q.invariant.1 c.requires.2.0 c.requires.2.1 c.requires.2.2 c.requires.2.3 c.requires.2.4 in
    let y = walk_inside w c.requires.1 c.loop-q.auto.q c.loop-q-test.true in
    let z = size_read w c.requires.1 c.loop-q.auto.q c.loop-q-test.true c.pair_in-start.ensures.0 in
    omega arith

pub entry_from-p-requires : goal.entry_from-p-requires
entry_from-p-requires c =
    let w = c.loop-q.invariant.1 c.requires.2.0 c.requires.2.1 c.requires.2.2 c.requires.2.3 c.requires.2.4 in
    let y = (walk_entry w c.requires.1 c.loop-q.auto.q c.loop-q-test.true).1.inside in
    omega arith

pub loop-q-preserved : goal.loop-q-preserved
loop-q-preserved c = (
  omega (arith, c.loop-q.invariant.0, c.if-left-eq1.false),
  λ x b l ts h.
      let w = c.loop-q.invariant.1 x b l ts h in
      walk_on w c.requires.1 c.loop-q.auto.q c.loop-q-test.true c.pair_in-start.ensures.0 c.if-left-eq1.false c.loop-q.invariant.0
      (c.entry_from-p.ensures _ _ (walk_splits w c.requires.1 c.loop-q.auto.q c.loop-q-test.true c.pair_in-start.ensures.0)),
)

pub returns : goal.returns
returns c =
    λ x b l ts h. walk_done (c.loop-q.invariant.1 x b l ts h) c.loop-q-test.false
