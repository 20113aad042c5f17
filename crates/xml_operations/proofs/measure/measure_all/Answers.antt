use Rattle.std.proofs.Common.{rules, ◌≡◌, Err, refl, arith}
use Rattle.xml_text.proofs.Scans.{bytes_of}
use Rattle.xml_operations.proofs.Sizes.{open_start, open_done, open_back, turn_no_token, turn_token, turn_deep, turn_broken, turn_name, turn_place, turn_down}
use Rattle.xml_operations.proofs.measure.measure_all.Goals as goal

pub loop-row-init : goal.loop-row-init
loop-row-init c = open_start _ _ _ _ _ c.requires.kind refl

pub returns-then-depth-eq0 : goal.returns-then-depth-eq0
returns-then-depth-eq0 c = open_done _ _ _ _ c.loop-row.invariant c.if-row.true c.if-depth-eq0.true

pub loop-row-preserved-then-row : goal.loop-row-preserved-then-row
loop-row-preserved-then-row c = open_back _ _ _ _ c.loop-row.invariant c.if-row.true c.if-depth-eq0.false refl

pub returns-in_err-ends : goal.returns-in_err-ends
returns-in_err-ends c =
    let r : c.from_residual.result ≡ Err c.in_err-ends.field-0.0 = search rules in
    rw r
    (turn_no_token _ _ _ _ c.loop-row.invariant c.if-row.false c.kind_at-kind.ensures (bytes_of _ c.type_inv.tree) c.from.ensures c.place_at-class.ensures
    c.if-class-ne0.true c.measure_token.ensures c.in_err-ends.was)

pub loop-row-preserved-then-class-ne0 : goal.loop-row-preserved-then-class-ne0
loop-row-preserved-then-class-ne0 c =
    turn_token _ _ _ _ c.loop-row.invariant c.if-row.false c.kind_at-kind.ensures (bytes_of _ c.type_inv.tree) c.from.ensures c.place_at-class.ensures
    c.if-class-ne0.true c.measure_token.ensures c.in_ok-ends.was

pub returns-then-depth-eq-LEVELS : goal.returns-then-depth-eq-LEVELS
returns-then-depth-eq-LEVELS c =
    turn_deep _ _ _ _ c.loop-row.invariant c.if-row.false c.kind_at-kind.ensures (bytes_of _ c.type_inv.tree) c.from.ensures c.place_at-class.ensures
    c.if-class-ne0.false c.if-depth-eq-LEVELS.true

pub returns-then-place-eq0 : goal.returns-then-place-eq0
returns-then-place-eq0 c =
    turn_broken _ _ _ _ c.loop-row.invariant c.if-row.false c.kind_at-kind.ensures (bytes_of _ c.type_inv.tree) c.from.ensures c.place_at-class.ensures
    c.if-class-ne0.false c.if-depth-eq-LEVELS.false c.production_place-place.ensures c.if-place-eq0.true

pub bounds-tree-ends : goal.bounds-tree-ends
bounds-tree-ends c =
    turn_name _ _ _ _ c.loop-row.invariant c.if-row.false c.kind_at-kind.ensures (bytes_of _ c.type_inv.tree) c.from.ensures c.place_at-class.ensures
    c.if-class-ne0.false c.if-depth-eq-LEVELS.false c.production_place-place.ensures c.if-place-eq0.false

pub operands_of-row-requires : goal.operands_of-row-requires
operands_of-row-requires c =
    let w = turn_place _ _ _ _ c.loop-row.invariant c.if-row.false c.kind_at-kind.ensures (bytes_of _ c.type_inv.tree) c.from.ensures c.place_at-class.ensures
    c.if-class-ne0.false c.if-depth-eq-LEVELS.false c.production_place-place.ensures c.if-place-eq0.false c.requires.sound in
    (omega (arith, w.0, w.1), omega (arith, w.0))

pub loop-row-smaller : goal.loop-row-smaller
loop-row-smaller c =
    let v = turn_name _ _ _ _ c.loop-row.invariant c.if-row.false c.kind_at-kind.ensures (bytes_of _ c.type_inv.tree) c.from.ensures c.place_at-class.ensures
    c.if-class-ne0.false c.if-depth-eq-LEVELS.false c.production_place-place.ensures c.if-place-eq0.false in
    omega (arith, v)

pub loop-row-preserved : goal.loop-row-preserved
loop-row-preserved c =
    turn_down _ _ _ _ c.loop-row.invariant c.if-row.false c.kind_at-kind.ensures (bytes_of _ c.type_inv.tree) c.from.ensures c.place_at-class.ensures
    c.if-class-ne0.false c.if-depth-eq-LEVELS.false c.production_place-place.ensures c.if-place-eq0.false c.operands_of-row.ensures.0 c.operands_of-row.ensures.1
    c.plus_tags.ensures c.requires.sound
