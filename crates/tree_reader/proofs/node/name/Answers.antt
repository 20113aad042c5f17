use Rattle.tree_reader.proofs.Laws.{at_key, name_end, name_unknown, name_known, name_in, kinds_from}
use native.Mathlib.Omega.{arith}
use Rattle.tree_reader.proofs.node.name.Goals as goal

pub returns-then-bytes-at : goal.returns-then-bytes-at
returns-then-bytes-at c = (name_end _ _ _ _ _ c.if-bytes-at.true, tt)

pub returns-then-place-eq0 : goal.returns-then-place-eq0
returns-then-place-eq0 c = (name_unknown _ _ _ _ _ c.if-bytes-at.false c.from.ensures c.from-2.ensures (at_key c.args.index.now c.place_at-place.ensures c.production_key.ensures.0) c.if-place-eq0.true, tt)

pub first_operand-requires : goal.first_operand-requires
first_operand-requires c = let b = name_in _ _ c.requires.sound c.from.ensures c.requires.kind (omega (arith, c.from-2.ensures, c.type_inv.bytes c.args.at)) (at_key c.args.index.now c.place_at-place.ensures c.production_key.ensures.0) c.if-place-eq0.false in omega arith

pub last_operand-requires : goal.last_operand-requires
last_operand-requires c = let b = name_in _ _ c.requires.sound c.from.ensures c.requires.kind (omega (arith, c.from-2.ensures, c.type_inv.bytes c.args.at)) (at_key c.args.index.now c.place_at-place.ensures c.production_key.ensures.0) c.if-place-eq0.false in omega arith

pub returns : goal.returns
returns c = (
  name_known _ _ _ _ _ c.if-bytes-at.false c.from.ensures c.from-2.ensures (at_key c.args.index.now c.place_at-place.ensures c.production_key.ensures.0) c.if-place-eq0.false c.first_operand.ensures c.last_operand.ensures,
  (omega arith, kinds_from _ _ c.requires.sound c.from.ensures c.requires.kind (omega (arith, c.from-2.ensures, c.type_inv.bytes c.args.at)) (at_key c.args.index.now c.place_at-place.ensures c.production_key.ensures.0) c.if-place-eq0.false c.first_operand.ensures c.last_operand.ensures),
)
