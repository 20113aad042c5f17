use Prim.Native.Nat.{◌+◌}
use mathlib.Core.Path.{◌≡◌, sym}
use lib.ListN.{length, take}
use Rattle.std.proofs.lemmas.List.{length-take}
use Rattle.std.proofs.lemmas.Result.{err_from_is_err_and}
use Rattle.score_tree.proofs.Weighing.{near_part, ends_back}
use native.Mathlib.Omega.{arith}
use Rattle.score_tree.proofs.Plans.{near_of, number_is, going_begin, kind_in, going_refused, going_outside, going_next, going_out, going_end, class_said, deep_said, end_said, unknown_said, node_asked, node_said}
use Rattle.score_tree.proofs.walk.+ends_at_node_ends.Goals as goal
use Rattle.score_tree.proofs.walk.+ends_at_node_ends.Goals.{node_ends-in-Some, node_ends-in-None}

pub ends_at-returns-then-class-ne0 : goal.ends_at-returns-then-class-ne0
ends_at-returns-then-class-ne0 t c = record { is = λ l w h. class_said c.args.tokens c.args.loaded.now h c.args.bytes.now _ c.requires.0 c.args.at _ _ c.from.ensures c.place_at-class.ensures c.if-class-ne0.true _ _ c.token_ends.ensures.0; near = c.token_ends.ensures.1 }

pub ends_at-returns-then-levels-eq0 : goal.ends_at-returns-then-levels-eq0
ends_at-returns-then-levels-eq0 t c = record { is = λ l w h. deep_said c.args.tokens c.args.loaded.now h c.args.bytes.now _ c.requires.0 c.args.at _ _ c.from.ensures c.place_at-class.ensures c.if-class-ne0.false _ c.if-levels-eq0.true; near = tt }

pub ends_at-returns-then-bytes-at : goal.ends_at-returns-then-bytes-at
ends_at-returns-then-bytes-at t c = record { is = λ l w h. end_said c.args.tokens c.args.loaded.now h c.args.bytes.now _ c.requires.0 c.args.at _ _ c.from.ensures c.place_at-class.ensures c.if-class-ne0.false c.args.levels c.if-levels-eq0.false c.if-bytes-at.true; near = tt }

pub ends_at-returns-then-production-eq0 : goal.ends_at-returns-then-production-eq0
ends_at-returns-then-production-eq0 t c = record { is = λ l w h. unknown_said c.args.tokens c.args.loaded.now h c.args.bytes.now _ c.requires.0 c.args.at _ _ c.from.ensures c.place_at-class.ensures c.if-class-ne0.false c.args.levels c.if-levels-eq0.false c.if-bytes-at.false _ _ _ _ c.from-2.ensures c.from-3.ensures (omega (arith, c.from-3.ensures, c.type_inv.bytes c.args.at)) c.production_key-key.ensures.0 c.place_at-production.ensures c.if-production-eq0.true; near = tt }

pub ends_at-node_ends-requires : goal.ends_at-node_ends-requires
ends_at-node_ends-requires t c = (omega (arith, c.decreases, c.if-levels-eq0.false), (c.requires.2.0, c.requires.2.1, _, _, _, node_asked c.args.tokens c.args.loaded.now c.requires.2.2 c.args.bytes.now _ c.requires.0 c.args.at _ _ c.from.ensures c.place_at-class.ensures c.if-class-ne0.false c.args.levels c.if-levels-eq0.false c.if-bytes-at.false _ _ _ _ c.from-2.ensures c.from-3.ensures (omega (arith, c.from-3.ensures, c.type_inv.bytes c.args.at)) c.production_key-key.ensures.0 c.place_at-production.ensures c.if-production-eq0.false))

pub ends_at-returns : goal.ends_at-returns
ends_at-returns t c = record { is = λ l w h. node_said c.args.tokens c.args.loaded.now h c.args.bytes.now _ c.requires.0 c.args.at _ _ c.from.ensures c.place_at-class.ensures c.if-class-ne0.false c.args.levels c.if-levels-eq0.false c.if-bytes-at.false _ _ _ _ c.from-2.ensures c.from-3.ensures (omega (arith, c.from-3.ensures, c.type_inv.bytes c.args.at)) c.production_key-key.ensures.0 c.place_at-production.ensures c.if-production-eq0.false _ (c.node_ends.ensures.is l w _ _ _ (node_asked c.args.tokens c.args.loaded.now h c.args.bytes.now _ c.requires.0 c.args.at _ _ c.from.ensures c.place_at-class.ensures c.if-class-ne0.false c.args.levels c.if-levels-eq0.false c.if-bytes-at.false _ _ _ _ c.from-2.ensures c.from-3.ensures (omega (arith, c.from-3.ensures, c.type_inv.bytes c.args.at)) c.production_key-key.ensures.0 c.place_at-production.ensures c.if-production-eq0.false)); near = c.node_ends.ensures.near }

pub node_ends-loop-i-init : goal.node_ends-loop-i-init
node_ends-loop-i-init t c = λ l w k p ks a. going_begin a _ _ c.operand_count-count.ensures

pub node_ends-ends_at-requires : goal.node_ends-ends_at-requires
node_ends-ends_at-requires t c = (omega (arith, c.decreases), (kind_in c.requires.5 _ _ c.operand_count-count.ensures (c.loop-i.invariant _ _ _ _ _ c.requires.5) c.loop-i-test.true _ (omega (arith, c.first_operand-first.ensures)), (c.loop-i.invariant _ _ _ _ _ c.requires.5).inside, (c.requires.0, c.requires.1, c.requires.5.world)))

pub node_ends-returns-then-not-within : goal.node_ends-returns-then-not-within
node_ends-returns-then-not-within t c = record { is = λ l w k p ks a. going_out a _ _ c.operand_count-count.ensures (c.loop-i.invariant l w k p ks a) c.loop-i-test.false (c.if-not-within.true); near = tt }

pub node_ends-loop-i-preserved : goal.node_ends-loop-i-preserved
node_ends-loop-i-preserved t c = λ l w k p ks a.
    let v = c.loop-i.invariant l w k p ks a in
    let q : c.args.production + 4 + c.loop-i.i ≡ c.first_operand-first.result + c.loop-i.i = omega (arith, c.first_operand-first.ensures) in
    elim c.match-operand.branch [
      | node_ends-in-Some x ↦ rw (x.operands-is, x.within-is, x.put_ends.ensures, ends_back _ (near_of _ _ _ c.ends_at.ensures.near c.in_ok-operand.was x.in-Some.is)) (going_next a _ _ c.operand_count-count.ensures v c.loop-i-test.true _ (sym q) _ (c.ends_at.ensures.is l w a.world) _ c.in_ok-operand.was _ x.in-Some.is c.ends_at.ensures.near)
      | node_ends-in-None x ↦ rw (x.operands-is, x.within-is) (going_outside a _ _ c.operand_count-count.ensures v c.loop-i-test.true _ (sym q) _ (c.ends_at.ensures.is l w a.world) _ c.in_ok-operand.was x.in-None.is)
    ]

pub node_ends-returns-in_err-operand : goal.node_ends-returns-in_err-operand
node_ends-returns-in_err-operand t c =
    let e = err_from_is_err_and c.from_residual.result c.from_residual.ensures.1 in
    let q : c.args.production + 4 + c.loop-i.i ≡ c.first_operand-first.result + c.loop-i.i = omega (arith, c.first_operand-first.ensures) in
    record {
      is = λ l w k p ks a. rw (e.1, e.2) (going_refused a _ _ c.operand_count-count.ensures (c.loop-i.invariant l w k p ks a) c.loop-i-test.true _ (sym q) _ (c.ends_at.ensures.is l w a.world) _ c.in_err-operand.was);
      near = rw e.1 tt;
    }

pub node_ends-sum_ends-requires : goal.node_ends-sum_ends-requires
node_ends-sum_ends-requires t c =
    let n = number_is c.requires.5 _ c.operand_count-count.ensures in
    let v = c.loop-i.invariant _ _ _ _ _ c.requires.5 in
    let m : length (take c.operand_count-count.result c.loop-i.operands) ≡ c.operand_count-count.result = omega (arith, n.1, v.held.long, length-take c.operand_count-count.result c.loop-i.operands) in (
      omega (arith, c.first_operand-first.ensures),
      omega (arith, n.2, c.first_operand-first.ensures, m),
      c.requires.5.world.long,
      omega (arith, n.1, m),
      c.requires.5.world.small,
      near_part _ _ v.held.near,
    )

pub node_ends-returns : goal.node_ends-returns
node_ends-returns t c =
    let n = number_is c.requires.5 _ c.operand_count-count.ensures in
    let v = c.loop-i.invariant _ _ _ _ _ c.requires.5 in
    let m : length (take c.operand_count-count.result c.loop-i.operands) ≡ c.operand_count-count.result = omega (arith, n.1, v.held.long, length-take c.operand_count-count.result c.loop-i.operands) in
    record {
      is = λ l w k p ks a. going_end a _ _ c.operand_count-count.ensures (c.loop-i.invariant l w k p ks a) c.loop-i-test.false (c.if-not-within.false) _ c.first_operand-first.ensures _ (rw m at c.sum_ends.ensures.0);
      near = c.sum_ends.ensures.1;
    }
