use Prim.Native.Nat.{◌+◌}
use mathlib.Core.Path.{refl}
use native.Mathlib.Omega.{arith}
use Rattle.run_emit.proofs.Skips.{name_some, set_long, started, turn_done, turn_popped, turn_to, turn_kind, turn_leaf_in, turn_leaf, turn_name_in, turn_sign_in, turn_place, turn_none, turn_room, turn_replaced, turn_pushed}
use Rattle.run_emit.proofs.skip.skip.Goals as goal

pub loop-q-init : goal.loop-q-init
loop-q-init c = (refl, refl, started _ _ _ _ _ _ _)

pub loop-q-preserved-then-q-end : goal.loop-q-preserved-then-q-end
loop-q-preserved-then-q-end c = (c.loop-q.invariant.0, c.loop-q.invariant.1, turn_popped c.requires c.loop-q.invariant.2 c.if-q-end.true c.if-depth-eq0.false)

pub is_leaf-requires : goal.is_leaf-requires
is_leaf-requires c = (turn_kind c.requires c.loop-q.invariant.2 c.if-q-end.false c.source_at-kind.ensures.0, turn_to c.requires c.loop-q.invariant.2 c.if-q-end.false)

pub leaf_length-to-requires : goal.leaf_length-to-requires
leaf_length-to-requires c = turn_to c.requires c.loop-q.invariant.2 c.if-q-end.false

pub loop-q-smaller-then-is_leaf : goal.loop-q-smaller-then-is_leaf
loop-q-smaller-then-is_leaf c = omega (arith, turn_leaf_in c.requires c.loop-q.invariant.2 c.if-q-end.false c.source_at-kind.ensures.0 c.is_leaf.ensures c.if-is_leaf.true c.leaf_length-to.ensures.0, c.leaf_length-to.ensures.1)

pub loop-q-preserved-then-is_leaf : goal.loop-q-preserved-then-is_leaf
loop-q-preserved-then-is_leaf c = (c.loop-q.invariant.0, c.loop-q.invariant.1, turn_leaf c.requires c.loop-q.invariant.2 c.if-q-end.false c.source_at-kind.ensures.0 c.is_leaf.ensures c.if-is_leaf.true c.leaf_length-to.ensures.0)

pub bounds-input-to : goal.bounds-input-to
bounds-input-to c = turn_sign_in c.requires c.loop-q.invariant.2 c.if-q-end.false c.source_at-kind.ensures.0 c.is_leaf.ensures c.if-is_leaf.false c.sign_length.ensures.0

pub index_at-place-requires : goal.index_at-place-requires
index_at-place-requires c = omega (arith, turn_kind c.requires c.loop-q.invariant.2 c.if-q-end.false c.source_at-kind.ensures.0, c.type_inv.input (c.loop-q.to + c.sign_length.result))

pub source_at-n-requires : goal.source_at-n-requires
source_at-n-requires c = omega (arith, turn_place c.requires c.loop-q.invariant.2 c.if-q-end.false c.source_at-kind.ensures.0 c.is_leaf.ensures c.if-is_leaf.false c.sign_length.ensures.0 (omega (arith, c.type_inv.input (c.loop-q.to + c.sign_length.result))) c.index_at-place.ensures.0)

pub loop-q-smaller-then-q-end-2 : goal.loop-q-smaller-then-q-end-2
loop-q-smaller-then-q-end-2 c = omega (arith, turn_name_in c.requires c.loop-q.invariant.2 c.if-q-end.false c.source_at-kind.ensures.0 c.is_leaf.ensures c.if-is_leaf.false c.name_length-to.ensures.0, name_some c.args.reading.now.syntax c.name_length-to.ensures.0)

pub loop-q-preserved-then-q-end-2 : goal.loop-q-preserved-then-q-end-2
loop-q-preserved-then-q-end-2 c = (c.loop-q.invariant.0, c.loop-q.invariant.1, turn_replaced c.requires c.loop-q.invariant.2 c.if-q-end.false c.source_at-kind.ensures.0 c.is_leaf.ensures c.if-is_leaf.false c.sign_length.ensures.0 (omega (arith, c.type_inv.input (c.loop-q.to + c.sign_length.result))) c.index_at-place.ensures.0 c.source_at-n.ensures.0 c.if-q-end-2.true c.name_length-to.ensures.0)

pub bounds-firsts-depth-then-n-ne2 : goal.bounds-firsts-depth-then-n-ne2
bounds-firsts-depth-then-n-ne2 c = omega (arith, turn_room c.requires c.loop-q.invariant.2 c.if-q-end.false c.source_at-kind.ensures.0 c.is_leaf.ensures c.if-is_leaf.false c.sign_length.ensures.0 (omega (arith, c.type_inv.input (c.loop-q.to + c.sign_length.result))) c.index_at-place.ensures.0 c.source_at-n.ensures.0 c.if-n-ne2.true)

pub bounds-lasts-depth-then-n-ne2 : goal.bounds-lasts-depth-then-n-ne2
bounds-lasts-depth-then-n-ne2 c = omega (arith, turn_room c.requires c.loop-q.invariant.2 c.if-q-end.false c.source_at-kind.ensures.0 c.is_leaf.ensures c.if-is_leaf.false c.sign_length.ensures.0 (omega (arith, c.type_inv.input (c.loop-q.to + c.sign_length.result))) c.index_at-place.ensures.0 c.source_at-n.ensures.0 c.if-n-ne2.true)

pub loop-q-smaller-then-n-ne2 : goal.loop-q-smaller-then-n-ne2
loop-q-smaller-then-n-ne2 c = omega (arith, turn_name_in c.requires c.loop-q.invariant.2 c.if-q-end.false c.source_at-kind.ensures.0 c.is_leaf.ensures c.if-is_leaf.false c.name_length-to.ensures.0, name_some c.args.reading.now.syntax c.name_length-to.ensures.0)

pub loop-q-preserved-then-n-ne2 : goal.loop-q-preserved-then-n-ne2
loop-q-preserved-then-n-ne2 c = (set_long c.loop-q.firsts c.loop-q.depth (c.loop-q.q + 1) c.loop-q.invariant.0, set_long c.loop-q.lasts c.loop-q.depth c.loop-q.end c.loop-q.invariant.1, turn_pushed c.requires c.loop-q.invariant.2 c.if-q-end.false c.source_at-kind.ensures.0 c.is_leaf.ensures c.if-is_leaf.false c.sign_length.ensures.0 (omega (arith, c.type_inv.input (c.loop-q.to + c.sign_length.result))) c.index_at-place.ensures.0 c.source_at-n.ensures.0 c.if-n-ne2.true c.name_length-to.ensures.0 c.loop-q.invariant.0 c.loop-q.invariant.1)

pub loop-q-smaller : goal.loop-q-smaller
loop-q-smaller c = omega (arith, turn_name_in c.requires c.loop-q.invariant.2 c.if-q-end.false c.source_at-kind.ensures.0 c.is_leaf.ensures c.if-is_leaf.false c.name_length-to.ensures.0, name_some c.args.reading.now.syntax c.name_length-to.ensures.0)

pub loop-q-preserved : goal.loop-q-preserved
loop-q-preserved c = (c.loop-q.invariant.0, c.loop-q.invariant.1, turn_none c.requires c.loop-q.invariant.2 c.if-q-end.false c.source_at-kind.ensures.0 c.is_leaf.ensures c.if-is_leaf.false c.sign_length.ensures.0 (omega (arith, c.type_inv.input (c.loop-q.to + c.sign_length.result))) c.index_at-place.ensures.0 c.source_at-n.ensures.0 c.if-n-ne2.false c.name_length-to.ensures.0)

pub returns : goal.returns
returns c = turn_done c.requires c.loop-q.invariant.2 c.if-q-end.true c.if-depth-eq0.true
