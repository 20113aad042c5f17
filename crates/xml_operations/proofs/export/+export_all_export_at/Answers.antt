use Rattle.std.proofs.Common.{refl, arith}
use Rattle.check_operations.proofs.Reading.{at_name, at_place}
use Rattle.xml_text.proofs.Scans.{bytes_of}
use Rattle.xml_operations.proofs.Exports.{goes_start, goes_done, next_asks, goes_next, token_there, token_room, token_done, level_left, kinds_end, kinds_legal, opening_room, operands_ask, closing_room, node_done, none_inside}
use Rattle.xml_operations.proofs.export.+export_all_export_at.Goals as goal
use Rattle.xml_operations.proofs.export.+export_all_export_at.Goals.{export_at-then-operands, export_at-else-operands}

pub export_all-loop-kind-init : goal.export_all-loop-kind-init
export_all-loop-kind-init t c = record { inside = c.requires.2; goes = goes_start _ _ _ _ _ _ _ _ }

pub export_all-export_at-ends-requires : goal.export_all-export_at-ends-requires
export_all-export_at-ends-requires t c =
    let w = c.loop-kind.invariant in (
      omega arith,
      (
        record { sound = c.requires.0; kind = c.requires.1 c.loop-kind.kind-index 0 c.loop-kind-test.true; inside = w.inside },
        (c.requires.3.0, _, _, next_asks _ _ _ _ _ _ _ _ w.goes refl c.loop-kind-test.true c.loop-kind.auto.out c.requires.3.3),
      ),
    )

pub export_all-loop-kind-preserved : goal.export_all-loop-kind-preserved
export_all-loop-kind-preserved t c =
    let w = c.loop-kind.invariant in
    record {
      inside = (c.export_at-ends.ensures _ _ _ (next_asks _ _ _ _ _ _ _ _ w.goes refl c.loop-kind-test.true c.loop-kind.auto.out c.requires.3.3)).inside;
      goes = λ l t rest a.
          goes_next _ _ _ _ _ _ _ _ w.goes refl c.loop-kind-test.true c.loop-kind.auto.out a
          (c.export_at-ends.ensures l _ _ (next_asks _ _ _ _ _ _ _ _ w.goes refl c.loop-kind-test.true c.loop-kind.auto.out a));
    }

pub export_all-returns : goal.export_all-returns
export_all-returns t c = goes_done _ _ _ _ _ _ _ _ c.loop-kind.invariant.goes c.loop-kind-test.false c.loop-kind.invariant.inside

pub export_at-pair_in-requires : goal.export_at-pair_in-requires
export_at-pair_in-requires t c =
    let w = token_there _ _ _ _ _ _ c.requires.0.kind (bytes_of _ c.type_inv.tree) c.from-number.ensures c.place_at-class.ensures c.production_place-place.ensures
    c.requires.1.3 c.if-place-eq0.true in
    omega (arith, w)

pub export_at-write_token-text-requires : goal.export_at-write_token-text-requires
export_at-write_token-text-requires t c = (
  omega (arith, c.requires.0.kind),
  c.pair_in.ensures.1,
  token_room _ _ _ _ _ _ c.requires.0.kind (bytes_of _ c.type_inv.tree) c.from-number.ensures c.place_at-class.ensures c.production_place-place.ensures
      c.requires.1.3 c.if-place-eq0.true c.pair_in.ensures.0,
)

pub export_at-returns-then-place-eq0 : goal.export_at-returns-then-place-eq0
export_at-returns-then-place-eq0 t c = λ l a rest q.
    token_done _ _ _ _ _ _ c.requires.0.kind (bytes_of _ c.type_inv.tree) c.from-number.ensures c.place_at-class.ensures c.production_place-place.ensures
    q c.if-place-eq0.true c.pair_in.ensures.0 c.write_token-text.ensures

pub export_at-bounds-tree-from : goal.export_at-bounds-tree-from
export_at-bounds-tree-from t c =
    at_name c.args.language.now c.args.index.now c.args.tree.now c.args.kind c.args.from.tree c.requires.0.kind (bytes_of _ c.type_inv.tree) c.from-number.ensures c.place_at-class.ensures c.production_place-place.ensures c.if-place-eq0.false

pub export_at-operands_of-operands-requires : goal.export_at-operands_of-operands-requires
export_at-operands_of-operands-requires t c =
    let w = at_place _ _ _ _ _ c.requires.0.kind (bytes_of _ c.type_inv.tree) c.from-number.ensures c.place_at-class.ensures c.production_place-place.ensures
    c.if-place-eq0.false c.requires.0.sound in
    (omega (arith, w.0, w.1), omega (arith, w.0))

pub export_at-write_opening-text-requires : goal.export_at-write_opening-text-requires
export_at-write_opening-text-requires t c = (
  omega (arith, c.requires.0.kind),
  omega arith,
  opening_room _ _ _ _ _ _ c.requires.0.kind (bytes_of _ c.type_inv.tree) c.from-number.ensures c.place_at-class.ensures c.production_place-place.ensures
      c.if-place-eq0.false c.from-name.ensures c.operands_of-operands.ensures.0 c.operands_of-operands.ensures.1 c.args.out.now c.requires.1.3,
)

pub export_at-slice_bounds-kinds-end : goal.export_at-slice_bounds-kinds-end
export_at-slice_bounds-kinds-end t c =
    kinds_end c.args.language.now c.args.index.now c.args.tree.now c.args.kind c.args.from.tree c.args.levels c.requires.0.kind (bytes_of _ c.type_inv.tree) c.from-number.ensures c.place_at-class.ensures
    c.production_place-place.ensures c.if-place-eq0.false c.from-name.ensures c.operands_of-operands.ensures.0 c.operands_of-operands.ensures.1 c.requires.0.sound c.if-operands.true

pub export_at-overflow_sub-levels : goal.export_at-overflow_sub-levels
export_at-overflow_sub-levels t c =
    let v = level_left c.args.language.now c.args.index.now c.args.tree.now c.args.kind c.args.from.tree c.args.levels c.requires.0.kind (bytes_of _ c.type_inv.tree) c.from-number.ensures c.place_at-class.ensures c.production_place-place.ensures
    c.if-place-eq0.false c.requires.1.3 in
    omega arith

pub export_at-export_all-ends-requires : goal.export_at-export_all-ends-requires
export_at-export_all-ends-requires t c =
    let v = level_left c.args.language.now c.args.index.now c.args.tree.now c.args.kind c.args.from.tree c.args.levels c.requires.0.kind (bytes_of _ c.type_inv.tree) c.from-number.ensures c.place_at-class.ensures c.production_place-place.ensures
    c.if-place-eq0.false c.requires.1.3 in
    let w = at_name c.args.language.now c.args.index.now c.args.tree.now c.args.kind c.args.from.tree c.requires.0.kind (bytes_of _ c.type_inv.tree) c.from-number.ensures c.place_at-class.ensures c.production_place-place.ensures c.if-place-eq0.false in (
      omega arith,
      (
        c.requires.0.sound,
        kinds_legal _ _ _ _ _ c.args.levels c.requires.0.kind (bytes_of _ c.type_inv.tree) c.from-number.ensures c.place_at-class.ensures c.production_place-place.ensures
            c.if-place-eq0.false c.from-name.ensures c.operands_of-operands.ensures.0 c.operands_of-operands.ensures.1 c.requires.0.sound,
        omega (arith, w),
        (
          c.requires.1.0,
          _,
          _,
          operands_ask _ _ _ _ _ _ c.requires.0.kind (bytes_of _ c.type_inv.tree) c.from-number.ensures c.place_at-class.ensures c.production_place-place.ensures
              c.if-place-eq0.false c.from-name.ensures c.operands_of-operands.ensures.0 c.operands_of-operands.ensures.1 c.args.out.now c.requires.1.3 c.write_opening-text.ensures c.write_opening-text.auto.out,
        ),
      ),
    )

pub export_at-write_closing-requires : goal.export_at-write_closing-requires
export_at-write_closing-requires t c = (
  omega (arith, c.requires.0.kind),
  omega arith,
  closing_room _ _ _ _ _ _ c.requires.0.kind (bytes_of _ c.type_inv.tree) c.from-number.ensures c.place_at-class.ensures c.production_place-place.ensures
      c.if-place-eq0.false c.from-name.ensures c.operands_of-operands.ensures.0 c.operands_of-operands.ensures.1 c.args.out.now c.requires.1.3 c.write_opening-text.ensures c.write_opening-text.auto.out
      {e = c.if-operands.ends.tree}
      (elim c.if-operands.branch [
        | export_at-then-operands w ↦
            rw (w.out-is, w.ends-is)
            (w.export_all-ends.ensures _ _ _
            (operands_ask _ _ _ _ _ _ c.requires.0.kind (bytes_of _ c.type_inv.tree) c.from-number.ensures c.place_at-class.ensures c.production_place-place.ensures
            c.if-place-eq0.false c.from-name.ensures c.operands_of-operands.ensures.0 c.operands_of-operands.ensures.1 c.args.out.now c.requires.1.3 c.write_opening-text.ensures c.write_opening-text.auto.out))
        | export_at-else-operands w ↦
            rw (w.out-is, w.ends-is)
            (none_inside _ _ _ _ _ _ c.requires.0.kind (bytes_of _ c.type_inv.tree) c.from-number.ensures c.place_at-class.ensures c.production_place-place.ensures
            c.if-place-eq0.false c.from-name.ensures c.operands_of-operands.ensures.0 c.operands_of-operands.ensures.1 c.args.out.now c.requires.1.3 c.write_opening-text.ensures c.write_opening-text.auto.out w.if-operands.false)
      ]) c.if-operands.auto.out,
)

pub export_at-returns : goal.export_at-returns
export_at-returns t c = λ l a rest q.
    node_done _ _ _ _ _ _ c.requires.0.kind (bytes_of _ c.type_inv.tree) c.from-number.ensures c.place_at-class.ensures c.production_place-place.ensures
    c.if-place-eq0.false c.from-name.ensures c.operands_of-operands.ensures.0 c.operands_of-operands.ensures.1 c.args.out.now q c.write_opening-text.ensures c.write_opening-text.auto.out
    (elim c.if-operands.branch [
      | export_at-then-operands w ↦
          rw (w.out-is, w.ends-is)
          (w.export_all-ends.ensures l _ rest
          (operands_ask _ _ _ _ _ _ c.requires.0.kind (bytes_of _ c.type_inv.tree) c.from-number.ensures c.place_at-class.ensures c.production_place-place.ensures
          c.if-place-eq0.false c.from-name.ensures c.operands_of-operands.ensures.0 c.operands_of-operands.ensures.1 c.args.out.now q c.write_opening-text.ensures c.write_opening-text.auto.out))
      | export_at-else-operands w ↦
          rw (w.out-is, w.ends-is)
          (none_inside _ _ _ _ _ _ c.requires.0.kind (bytes_of _ c.type_inv.tree) c.from-number.ensures c.place_at-class.ensures c.production_place-place.ensures
          c.if-place-eq0.false c.from-name.ensures c.operands_of-operands.ensures.0 c.operands_of-operands.ensures.1 c.args.out.now q c.write_opening-text.ensures c.write_opening-text.auto.out w.if-operands.false)
    ]) c.if-operands.auto.out c.write_closing.ensures
