use Prim.Native.Nat.{ℕ, ◌+◌}
use mathlib.Core.Path.{sym, ap, ◌∙◌}
use native.Mathlib.Omega.{arith}
use lib.ListN.{set}
use Rattle.run_emit.proofs.Rows.{asked, going_end, going_full, next_below, next_two, next_narrow, token_three, argument_some, argument_asks, argument_turn, named_some, named_room, named_asks, inner_turn, token_room, token_turn, NodeGoing, node_some, node_going, root_narrow, root_room, root_going, going_as, node_wrote, last_asks, node_end, find_asks, placed, placed_gives, found_place, found_below, found_asks, found_gives, leaf_room, leaf_low, leaf_gives}
use Rattle.run_emit.proofs.run.+run_argument_run_codes_run_node_run_row.Goals as goal
use Rattle.run_emit.proofs.run.+run_argument_run_codes_run_node_run_row.Goals.{run_node-then-body_at-eq1, run_node-else-body_at-eq1}

pub run_argument-is_leaf-requires : goal.run_argument-is_leaf-requires
run_argument-is_leaf-requires t c = found_below c.requires.1.4 c.source_at-kind.ensures.0

pub run_argument-put_argument-requires : goal.run_argument-put_argument-requires
run_argument-put_argument-requires t c = (c.requires.1.4.asks.room, (leaf_room c.requires.1.4 c.source_at-kind.ensures.0 (sym c.is_leaf.ensures ∙ c.if-is_leaf.true), leaf_low c.requires.1.4 c.source_at-kind.ensures.0 (sym c.is_leaf.ensures ∙ c.if-is_leaf.true)), (found_place c.requires.1.4).0, c.requires.0)

pub run_argument-returns-then-is_leaf : goal.run_argument-returns-then-is_leaf
run_argument-returns-then-is_leaf t c = λ f given ts ks a. leaf_gives a c.source_at-kind.ensures.0 (sym c.is_leaf.ensures ∙ c.if-is_leaf.true) c.put_argument.ensures.0 c.put_argument.ensures.1

pub run_argument-run_node-requires : goal.run_argument-run_node-requires
run_argument-run_node-requires t c = (omega (arith, c.decreases, c.requires.1.4.asks.more), (c.requires.0, (found_place c.requires.1.4).0, c.requires.1.4.asks.room, (c.requires.1.0, c.requires.1.1, _, found_asks c.requires.1.4 c.source_at-kind.ensures.0 (sym c.is_leaf.ensures ∙ c.if-is_leaf.false))))

pub run_argument-returns : goal.run_argument-returns
run_argument-returns t c = λ f given ts ks a. found_gives a c.source_at-kind.ensures.0 (sym c.is_leaf.ensures ∙ c.if-is_leaf.false) c.run_node.ensures

pub run_row-returns-then-output-p : goal.run_row-returns-then-output-p
run_row-returns-then-output-p t c = λ f given ts ks cs js a. going_full (c.loop-c.invariant f given ts ks cs js a) c.if-output-p.true

pub run_row-body_at-i-requires : goal.run_row-body_at-i-requires
run_row-body_at-i-requires t c = next_below (asked c.loop-c.invariant c.requires.1) c.loop-c-test.true

pub run_row-overflow_sub-i : goal.run_row-overflow_sub-i
run_row-overflow_sub-i t c = omega (arith, (argument_asks (asked c.loop-c.invariant c.requires.1) c.loop-c-test.true c.body_at-sign.ensures.0 c.if-sign-gt2.true).some, c.body_at-i.ensures.0)

pub run_row-start_of-a-requires : goal.run_row-start_of-a-requires
run_row-start_of-a-requires t c = (c.requires.1.0, c.requires.1.1, c.requires.1.2, c.requires.1.3, find_asks c.body_at-i.ensures.0 (argument_asks (asked c.loop-c.invariant c.requires.1) c.loop-c-test.true c.body_at-sign.ensures.0 c.if-sign-gt2.true))

pub run_row-run_argument-p-requires : goal.run_row-run_argument-p-requires
run_row-run_argument-p-requires t c = (omega (arith, c.decreases, argument_some (asked c.loop-c.invariant c.requires.1) c.loop-c-test.true c.body_at-sign.ensures.0 c.if-sign-gt2.true), (c.if-output-p.false, (c.requires.1.0, c.requires.1.1, c.requires.1.2, c.requires.1.3, placed c.body_at-i.ensures.0 (argument_asks (asked c.loop-c.invariant c.requires.1) c.loop-c-test.true c.body_at-sign.ensures.0 c.if-sign-gt2.true) c.start_of-a.ensures)))

pub run_row-loop-c-preserved-then-sign-gt2 : goal.run_row-loop-c-preserved-then-sign-gt2
run_row-loop-c-preserved-then-sign-gt2 t c = λ f given ts ks cs js a. argument_turn (c.loop-c.invariant f given ts ks cs js a) c.loop-c-test.true c.body_at-sign.ensures.0 c.if-sign-gt2.true (placed_gives c.body_at-i.ensures.0 c.start_of-a.ensures c.run_argument-p.ensures)

pub run_row-body_at-requires : goal.run_row-body_at-requires
run_row-body_at-requires t c = next_below (asked c.loop-c.invariant c.requires.1) c.loop-c-test.true

pub run_row-overflow_cast-body_at : goal.run_row-overflow_cast-body_at
run_row-overflow_cast-body_at t c = omega (arith, next_narrow (asked c.loop-c.invariant c.requires.1) c.loop-c-test.true c.body_at.ensures.0 (omega arith) (next_two (asked c.loop-c.invariant c.requires.1) c.loop-c-test.true))

pub run_row-run_codes-p-requires : goal.run_row-run_codes-p-requires
run_row-run_codes-p-requires t c = let w = named_asks (asked c.loop-c.invariant c.requires.1) c.loop-c-test.true (sym c.body_at-sign.ensures.0 ∙ c.if-sign-eq1.true) c.span_at-c.ensures.0 in (omega (arith, c.decreases, named_some (asked c.loop-c.invariant c.requires.1) c.loop-c-test.true (sym c.body_at-sign.ensures.0 ∙ c.if-sign-eq1.true)), (omega (arith, c.requires.0, named_some (asked c.loop-c.invariant c.requires.1) c.loop-c-test.true (sym c.body_at-sign.ensures.0 ∙ c.if-sign-eq1.true)), (c.requires.1.0, c.requires.1.1, c.requires.1.2, c.requires.1.3, w.0, w.1, w.2)))

pub run_row-loop-c-smaller-then-sign-eq1 : goal.run_row-loop-c-smaller-then-sign-eq1
run_row-loop-c-smaller-then-sign-eq1 t c = omega (arith, (named_room (asked c.loop-c.invariant c.requires.1) c.loop-c-test.true (sym c.body_at-sign.ensures.0 ∙ c.if-sign-eq1.true)).0, c.span_at-c.ensures.0, c.loop-c-test.true)

pub run_row-loop-c-preserved-then-sign-eq1 : goal.run_row-loop-c-preserved-then-sign-eq1
run_row-loop-c-preserved-then-sign-eq1 t c = λ f given ts ks cs js a. inner_turn (c.loop-c.invariant f given ts ks cs js a) c.loop-c-test.true (sym c.body_at-sign.ensures.0 ∙ c.if-sign-eq1.true) c.body_at.ensures.0 c.put_name-p.ensures c.span_at-c.ensures.0 c.run_codes-p.ensures

pub run_row-body_at-high-requires : goal.run_row-body_at-high-requires
run_row-body_at-high-requires t c = next_below (asked c.loop-c.invariant c.requires.1) c.loop-c-test.true

pub run_row-overflow_cast-high : goal.run_row-overflow_cast-high
run_row-overflow_cast-high t c = omega (arith, next_narrow (asked c.loop-c.invariant c.requires.1) c.loop-c-test.true c.body_at-high.ensures.0 (omega arith) (next_two (asked c.loop-c.invariant c.requires.1) c.loop-c-test.true))

pub run_row-body_at-low-requires : goal.run_row-body_at-low-requires
run_row-body_at-low-requires t c = token_room (asked c.loop-c.invariant c.requires.1) c.loop-c-test.true (λ z. c.if-sign-eq1.false (c.body_at-sign.ensures.0 ∙ z)) (omega (arith, c.if-sign-gt2.false, c.body_at-sign.ensures.0))

pub run_row-overflow_cast-low : goal.run_row-overflow_cast-low
run_row-overflow_cast-low t c = omega (arith, next_narrow (asked c.loop-c.invariant c.requires.1) c.loop-c-test.true c.body_at-low.ensures.0 (omega arith) (token_three (asked c.loop-c.invariant c.requires.1) c.loop-c-test.true (λ z. c.if-sign-eq1.false (c.body_at-sign.ensures.0 ∙ z)) (omega (arith, c.if-sign-gt2.false, c.body_at-sign.ensures.0))))

pub run_row-loop-c-preserved : goal.run_row-loop-c-preserved
run_row-loop-c-preserved t c = λ f given ts ks cs js a. token_turn (c.loop-c.invariant f given ts ks cs js a) c.loop-c-test.true (λ z. c.if-sign-eq1.false (c.body_at-sign.ensures.0 ∙ z)) (omega (arith, c.if-sign-gt2.false, c.body_at-sign.ensures.0)) c.body_at-high.ensures.0 c.body_at-low.ensures.0 c.put_token-p.ensures

pub run_row-returns : goal.run_row-returns
run_row-returns t c = λ f given ts ks cs js a. going_end (c.loop-c.invariant f given ts ks cs js a) c.loop-c-test.false

pub run_node-body_at-requires : goal.run_node-body_at-requires
run_node-body_at-requires t c = omega (arith, root_room c.requires.3.3 (c.start_node-c.ensures c.requires.3.0 c.requires.3.1 c.requires.3.2 c.requires.3.3.there) (c.clause_end-stop.ensures (c.start_node-c.ensures c.requires.3.0 c.requires.3.1 c.requires.3.2 c.requires.3.3.there).body (c.start_node-c.ensures c.requires.3.0 c.requires.3.1 c.requires.3.2 c.requires.3.3.there).clause))

pub run_node-body_at-requires-then-body_at-eq1 : goal.run_node-body_at-requires-then-body_at-eq1
run_node-body_at-requires-then-body_at-eq1 t c = root_room c.requires.3.3 (c.start_node-c.ensures c.requires.3.0 c.requires.3.1 c.requires.3.2 c.requires.3.3.there) (c.clause_end-stop.ensures (c.start_node-c.ensures c.requires.3.0 c.requires.3.1 c.requires.3.2 c.requires.3.3.there).body (c.start_node-c.ensures c.requires.3.0 c.requires.3.1 c.requires.3.2 c.requires.3.3.there).clause)

pub run_node-overflow_cast-body_at : goal.run_node-overflow_cast-body_at
run_node-overflow_cast-body_at t c = omega (arith, root_narrow c.requires.3.3 (c.start_node-c.ensures c.requires.3.0 c.requires.3.1 c.requires.3.2 c.requires.3.3.there) (c.clause_end-stop.ensures (c.start_node-c.ensures c.requires.3.0 c.requires.3.1 c.requires.3.2 c.requires.3.3.there).body (c.start_node-c.ensures c.requires.3.0 c.requires.3.1 c.requires.3.2 c.requires.3.3.there).clause) c.body_at-then-body_at-eq1.ensures.0)

pub run_node-run_row-p-requires : goal.run_node-run_row-p-requires
run_node-run_row-p-requires t c = let s = (c.start_node-c.ensures c.requires.3.0 c.requires.3.1 c.requires.3.2 c.requires.3.3.there) in let e = c.clause_end-stop.ensures s.body s.clause in let n : NodeGoing c.requires.3.3 s e c.if-body_at-eq1.c c.args.output.now c.if-body_at-eq1.output c.args.pos c.if-body_at-eq1.p = elim c.if-body_at-eq1.branch [ run_node-then-body_at-eq1 w ↦ going_as c.requires.3.3 s e w.output-is w.c-is w.p-is (root_going c.requires.3.3 s e (sym c.body_at.ensures.0 ∙ w.if-body_at-eq1.true) w.body_at-then-body_at-eq1.ensures.0 w.put_name-p.ensures) | run_node-else-body_at-eq1 w ↦ going_as c.requires.3.3 s e w.output-is w.c-is w.p-is (node_going c.requires.3.3 s e (λ z. w.if-body_at-eq1.false (c.body_at.ensures.0 ∙ z)) _ _) ] in (omega (arith, c.decreases, node_some c.requires.3.3 s e), (omega (arith, c.requires.3.3.whole, node_some c.requires.3.3 s e), (c.requires.3.0, c.requires.3.1, s.operands, s.kinds, n.rest, n.kinds, n.asks)))

pub run_node-last_end-requires : goal.run_node-last_end-requires
run_node-last_end-requires t c = let s = (c.start_node-c.ensures c.requires.3.0 c.requires.3.1 c.requires.3.2 c.requires.3.3.there) in let e = c.clause_end-stop.ensures s.body s.clause in let n : NodeGoing c.requires.3.3 s e c.if-body_at-eq1.c c.args.output.now c.if-body_at-eq1.output c.args.pos c.if-body_at-eq1.p = elim c.if-body_at-eq1.branch [ run_node-then-body_at-eq1 w ↦ going_as c.requires.3.3 s e w.output-is w.c-is w.p-is (root_going c.requires.3.3 s e (sym c.body_at.ensures.0 ∙ w.if-body_at-eq1.true) w.body_at-then-body_at-eq1.ensures.0 w.put_name-p.ensures) | run_node-else-body_at-eq1 w ↦ going_as c.requires.3.3 s e w.output-is w.c-is w.p-is (node_going c.requires.3.3 s e (λ z. w.if-body_at-eq1.false (c.body_at.ensures.0 ∙ z)) _ _) ] in (c.requires.3.0, c.requires.3.1, _, _, last_asks c.requires.3.3 s e n c.run_row-p.ensures)

pub run_node-returns : goal.run_node-returns
run_node-returns t c = λ f given u a. let s = (c.start_node-c.ensures f given u a.there) in let e = c.clause_end-stop.ensures s.body s.clause in let n : NodeGoing a s e c.if-body_at-eq1.c c.args.output.now c.if-body_at-eq1.output c.args.pos c.if-body_at-eq1.p = elim c.if-body_at-eq1.branch [ run_node-then-body_at-eq1 w ↦ going_as a s e w.output-is w.c-is w.p-is (root_going a s e (sym c.body_at.ensures.0 ∙ w.if-body_at-eq1.true) w.body_at-then-body_at-eq1.ensures.0 w.put_name-p.ensures) | run_node-else-body_at-eq1 w ↦ going_as a s e w.output-is w.c-is w.p-is (node_going a s e (λ z. w.if-body_at-eq1.false (c.body_at.ensures.0 ∙ z)) _ _) ] in (node_wrote a s e n c.run_row-p.ensures, ap (λ (i : ℕ). set c.args.above.now (c.args.j + 1) i) (node_end a s e n c.run_row-p.ensures (c.last_end.ensures f given _ _ (last_asks a s e n c.run_row-p.ensures))))
