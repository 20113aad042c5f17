use Rattle.std.proofs.Common.{◌≡◌, Some, None, Err, refl, arith}
use Rattle.xml_text.specs.declared.import.TextError.TheVariants.{Broken}
use Rattle.xml_text.proofs.Scans.{bytes_of}
use Rattle.xml_text.proofs.Rows.{open_start, open_done, open_unclosed, open_back, turn_no_token, turn_token, turn_not, turn_deep, turn_no_element, turn_past, turn_down}
use Rattle.xml_text.proofs.import.text_at.Goals as goal

pub loop-row-init : goal.loop-row-init
loop-row-init c = open_start _ _ _ _ _ c.requires.kind refl

pub returns-then-depth-eq0 : goal.returns-then-depth-eq0
returns-then-depth-eq0 c = open_done _ _ _ _ c.loop-row.invariant c.if-row.true c.if-depth-eq0.true

pub returns-in_err-to : goal.returns-in_err-to
returns-in_err-to c =
    let none : c.closing_at.result ≡ None = grind arith in
    let broken : c.from_residual.result ≡ Err Broken = grind arith in
    rw broken (open_unclosed _ _ _ _ c.loop-row.invariant c.if-row.true c.if-depth-eq0.false refl c.closing_at.ensures none)

pub loop-row-preserved-then-row : goal.loop-row-preserved-then-row
loop-row-preserved-then-row c =
    let some : c.closing_at.result ≡ Some c.in_ok-to.to = grind arith in
    open_back _ _ _ _ c.loop-row.invariant c.if-row.true c.if-depth-eq0.false refl c.closing_at.ensures some

pub returns-in_err-to-2 : goal.returns-in_err-to-2
returns-in_err-to-2 c =
    let none : c.token_at.result ≡ None = grind arith in
    let broken : c.from_residual-in_err-to-2.result ≡ Err Broken = grind arith in
    rw broken
    (turn_no_token _ _ _ _ c.loop-row.invariant c.if-row.false c.kind_at-kind.ensures (bytes_of _ c.type_inv.language) c.from.ensures c.place_at-class.ensures
    (c.is_token.ensures.some c.if-is_token.true) c.token_at.ensures none)

pub loop-row-preserved-then-is_token : goal.loop-row-preserved-then-is_token
loop-row-preserved-then-is_token c =
    let some : c.token_at.result ≡ Some (c.in_ok-to-2.field-0-0, c.in_ok-to-2.field-0-1) = grind arith in
    turn_token _ _ _ _ c.loop-row.invariant c.if-row.false c.kind_at-kind.ensures (bytes_of _ c.type_inv.language) c.from.ensures c.place_at-class.ensures
    (c.is_token.ensures.some c.if-is_token.true) c.token_at.ensures some

pub returns-then-class-ne0 : goal.returns-then-class-ne0
returns-then-class-ne0 c =
    turn_not _ _ _ _ c.loop-row.invariant c.if-row.false c.kind_at-kind.ensures (bytes_of _ c.type_inv.language) c.from.ensures c.place_at-class.ensures
    c.if-class-ne0.true c.is_token.ensures c.if-is_token.false

pub returns-then-depth-eq-LEVELS : goal.returns-then-depth-eq-LEVELS
returns-then-depth-eq-LEVELS c =
    turn_deep _ _ _ _ c.loop-row.invariant c.if-row.false c.kind_at-kind.ensures (bytes_of _ c.type_inv.language) c.from.ensures c.place_at-class.ensures
    c.if-class-ne0.false c.if-depth-eq-LEVELS.true

pub returns-in_err-operands : goal.returns-in_err-operands
returns-in_err-operands c =
    let none : c.element_at.result ≡ None = grind arith in
    let broken : c.from_residual-in_err-operands.result ≡ Err Broken = grind arith in
    rw broken
    (turn_no_element _ _ _ _ c.loop-row.invariant c.if-row.false c.kind_at-kind.ensures (bytes_of _ c.type_inv.language) c.from.ensures c.place_at-class.ensures
    c.if-class-ne0.false c.if-depth-eq-LEVELS.false c.element_at.ensures none)

pub overflow_sub-rows : goal.overflow_sub-rows
overflow_sub-rows c =
    let some : c.element_at.result ≡ Some (c.in_ok-operands.operands, c.in_ok-operands.end) = grind arith in
    let v = turn_past _ _ _ _ c.loop-row.invariant c.if-row.false c.kind_at-kind.ensures (bytes_of _ c.type_inv.language) c.from.ensures c.place_at-class.ensures
    c.if-class-ne0.false c.if-depth-eq-LEVELS.false c.element_at.ensures some in
    omega (arith, v.0)

pub overflow_add-rows : goal.overflow_add-rows
overflow_add-rows c =
    let some : c.element_at.result ≡ Some (c.in_ok-operands.operands, c.in_ok-operands.end) = grind arith in
    let v = turn_past _ _ _ _ c.loop-row.invariant c.if-row.false c.kind_at-kind.ensures (bytes_of _ c.type_inv.language) c.from.ensures c.place_at-class.ensures
    c.if-class-ne0.false c.if-depth-eq-LEVELS.false c.element_at.ensures some in
    omega (arith, v.0, v.1)

pub loop-row-smaller : goal.loop-row-smaller
loop-row-smaller c =
    let some : c.element_at.result ≡ Some (c.in_ok-operands.operands, c.in_ok-operands.end) = grind arith in
    let v = turn_past _ _ _ _ c.loop-row.invariant c.if-row.false c.kind_at-kind.ensures (bytes_of _ c.type_inv.language) c.from.ensures c.place_at-class.ensures
    c.if-class-ne0.false c.if-depth-eq-LEVELS.false c.element_at.ensures some in
    omega (arith, v.0, v.1)

pub loop-row-preserved : goal.loop-row-preserved
loop-row-preserved c =
    let some : c.element_at.result ≡ Some (c.in_ok-operands.operands, c.in_ok-operands.end) = grind arith in
    turn_down _ _ _ _ c.loop-row.invariant c.if-row.false c.kind_at-kind.ensures (bytes_of _ c.type_inv.language) c.from.ensures c.place_at-class.ensures
    c.if-class-ne0.false c.if-depth-eq-LEVELS.false c.element_at.ensures some
