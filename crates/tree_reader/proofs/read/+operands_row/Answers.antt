use Rattle.std.proofs.Common.{rules, ◌≡◌, Err}
use mathlib.Core.Path.{refl, sym, ◌∙◌}
use native.Mathlib.Omega.{arith}
use Rattle.tree_reader.proofs.Laws.{read_past, named_past, read_token_lem, read_operands, operands_done, operands_next, operands_last, operands_err, row_short, named_node, named_in, named_kinds, named_end, end_in, class_at}
use Rattle.tree_reader.proofs.read.+operands_row.Goals as goal

pub operands-loop-q-init : goal.operands-loop-q-init
operands-loop-q-init t c = let p = c.requires in (p.2, omega arith, p.1, refl)

pub operands-bounds-language-q : goal.operands-bounds-language-q
operands-bounds-language-q t c = let b = c.loop-q.invariant.2 _ (omega arith) c.loop-q-test.true in omega arith

pub operands-class_place-class-requires : goal.operands-class_place-class-requires
operands-class_place-class-requires t c = let b = c.loop-q.invariant.2 _ (omega arith) c.loop-q-test.true in let z = c.requires.0 in omega (arith, z.long, b.1)

pub operands-production_place-place-requires : goal.operands-production_place-place-requires
operands-production_place-place-requires t c = let b = c.loop-q.invariant.2 _ (omega arith) c.loop-q-test.true in (c.requires.0.long, b.1, c.loop-q.invariant.0)

pub operands-overflow_add-q : goal.operands-overflow_add-q
operands-overflow_add-q t c = let b = c.loop-q.invariant.2 _ (omega arith) c.loop-q-test.true in let z = c.requires.0 in omega (arith, z.short, b.0)

pub operands-leaf-requires : goal.operands-leaf-requires
operands-leaf-requires t c = let b = c.loop-q.invariant.2 _ (omega arith) c.loop-q-test.true in (record { sound = c.requires.0; kind = b.1; inside = c.loop-q.invariant.0 }, c.class_place-class.ensures)

pub operands-loop-q-smaller-then-place-eq0 : goal.operands-loop-q-smaller-then-place-eq0
operands-loop-q-smaller-then-place-eq0 t c = omega (arith, c.loop-q-test.true)

pub operands-loop-q-preserved-then-place-eq0 : goal.operands-loop-q-preserved-then-place-eq0
operands-loop-q-preserved-then-place-eq0 t c = (end_in _ c.in_ok-to.was c.leaf.ensures.1, c.loop-q.invariant.1, (λ x i j. c.loop-q.invariant.2 x (omega arith) j), sym (operands_next _ _ _ _ _ c.loop-q-test.true (c.leaf.ensures.0 (sym c.production_place-place.ensures ∙ c.if-place-eq0.true)) c.in_ok-to.was) ∙ c.loop-q.invariant.3)

pub operands-returns-then-left-eq0 : goal.operands-returns-then-left-eq0
operands-returns-then-left-eq0 t c = (sym (operands_err _ _ _ _ _ c.loop-q-test.true (read_past _ _ _ _ _ _ _ _ c.if-left-eq0.true (named_past c.args.syntax c.args.language.now c.args.index.now c.args.uses.now _ c.args.bytes.now _ c.class_place-class.ensures c.production_place-place.ensures c.if-place-eq0.false)) refl) ∙ c.loop-q.invariant.3, tt)

pub operands-first_operand-first-requires : goal.operands-first_operand-first-requires
operands-first_operand-first-requires t c = let b = c.loop-q.invariant.2 _ (omega arith) c.loop-q-test.true in let w = named_in c.args.syntax c.args.language.now c.args.index.now c.args.uses.now _ c.args.bytes.now _ c.class_place-class.ensures c.production_place-place.ensures c.if-place-eq0.false c.requires.0 b.1 (λ i. omega (arith, c.type_inv.bytes i)) in omega (arith, w.0, w.1)

pub operands-last_operand-last-requires : goal.operands-last_operand-last-requires
operands-last_operand-last-requires t c = let b = c.loop-q.invariant.2 _ (omega arith) c.loop-q-test.true in let w = named_in c.args.syntax c.args.language.now c.args.index.now c.args.uses.now _ c.args.bytes.now _ c.class_place-class.ensures c.production_place-place.ensures c.if-place-eq0.false c.requires.0 b.1 (λ i. omega (arith, c.type_inv.bytes i)) in omega (arith, w.0, w.1)

pub operands-overflow_add-to : goal.operands-overflow_add-to
operands-overflow_add-to t c = let w = named_end c.args.syntax c.args.language.now c.args.index.now c.args.uses.now _ c.args.bytes.now _ c.class_place-class.ensures c.production_place-place.ensures c.if-place-eq0.false c.name_length-to.ensures.0 in omega (arith, w, c.type_inv.bytes 0)

pub operands-loop-q-smaller-then-q-end : goal.operands-loop-q-smaller-then-q-end
operands-loop-q-smaller-then-q-end t c = let b = c.loop-q.invariant.2 _ (omega arith) c.loop-q-test.true in let ks = named_kinds c.args.syntax c.args.language.now c.args.index.now c.args.uses.now _ c.args.bytes.now _ c.class_place-class.ensures c.production_place-place.ensures c.if-place-eq0.false c.requires.0 b.1 (λ i. omega (arith, c.type_inv.bytes i)) c.first_operand-first.ensures c.last_operand-last.ensures in omega (arith, row_short c.args.language.now _ _ c.requires.0.short ks, c.if-left-eq0.false)

pub operands-loop-q-preserved-then-q-end : goal.operands-loop-q-preserved-then-q-end
operands-loop-q-preserved-then-q-end t c = let b = c.loop-q.invariant.2 _ (omega arith) c.loop-q-test.true in (named_end c.args.syntax c.args.language.now c.args.index.now c.args.uses.now _ c.args.bytes.now _ c.class_place-class.ensures c.production_place-place.ensures c.if-place-eq0.false c.name_length-to.ensures.0, omega arith, named_kinds c.args.syntax c.args.language.now c.args.index.now c.args.uses.now _ c.args.bytes.now _ c.class_place-class.ensures c.production_place-place.ensures c.if-place-eq0.false c.requires.0 b.1 (λ i. omega (arith, c.type_inv.bytes i)) c.first_operand-first.ensures c.last_operand-last.ensures, operands_last _ _ _ _ _ c.if-q-end.true (read_operands _ _ _ _ _ _ _ _ c.if-left-eq0.false (named_node c.args.syntax c.args.language.now c.args.index.now c.args.uses.now _ c.args.bytes.now _ c.class_place-class.ensures c.production_place-place.ensures c.if-place-eq0.false c.first_operand-first.ensures c.last_operand-last.ensures c.name_length-to.ensures.0) refl) ∙ c.loop-q.invariant.3)

pub operands-loop-q-smaller-then-last-first : goal.operands-loop-q-smaller-then-last-first
operands-loop-q-smaller-then-last-first t c = omega (arith, c.loop-q-test.true)

pub operands-loop-q-preserved-then-last-first : goal.operands-loop-q-preserved-then-last-first
operands-loop-q-preserved-then-last-first t c = let b = c.loop-q.invariant.2 _ (omega arith) c.loop-q-test.true in (named_end c.args.syntax c.args.language.now c.args.index.now c.args.uses.now _ c.args.bytes.now _ c.class_place-class.ensures c.production_place-place.ensures c.if-place-eq0.false c.name_length-to.ensures.0, c.loop-q.invariant.1, (λ x i j. c.loop-q.invariant.2 x (omega arith) j), sym (operands_next _ _ _ _ _ c.loop-q-test.true (read_operands _ _ _ _ _ _ _ _ c.if-left-eq0.false (named_node c.args.syntax c.args.language.now c.args.index.now c.args.uses.now _ c.args.bytes.now _ c.class_place-class.ensures c.production_place-place.ensures c.if-place-eq0.false c.first_operand-first.ensures c.last_operand-last.ensures c.name_length-to.ensures.0) refl) (operands_done _ _ _ _ _ c.if-last-first.true)) ∙ c.loop-q.invariant.3)

pub operands-row-requires : goal.operands-row-requires
operands-row-requires t c = let b = c.loop-q.invariant.2 _ (omega arith) c.loop-q-test.true in (omega (arith, c.decreases, c.loop-q.invariant.1, c.if-left-eq0.false), (c.requires.0, named_kinds c.args.syntax c.args.language.now c.args.index.now c.args.uses.now _ c.args.bytes.now _ c.class_place-class.ensures c.production_place-place.ensures c.if-place-eq0.false c.requires.0 b.1 (λ i. omega (arith, c.type_inv.bytes i)) c.first_operand-first.ensures c.last_operand-last.ensures, c.if-last-first.false, named_end c.args.syntax c.args.language.now c.args.index.now c.args.uses.now _ c.args.bytes.now _ c.class_place-class.ensures c.production_place-place.ensures c.if-place-eq0.false c.name_length-to.ensures.0))

pub operands-loop-q-smaller : goal.operands-loop-q-smaller
operands-loop-q-smaller t c = omega (arith, c.loop-q-test.true)

pub operands-loop-q-preserved : goal.operands-loop-q-preserved
operands-loop-q-preserved t c = let b = c.loop-q.invariant.2 _ (omega arith) c.loop-q-test.true in (end_in _ c.in_ok-to-2.was c.row.ensures.1, c.loop-q.invariant.1, (λ x i j. c.loop-q.invariant.2 x (omega arith) j), sym (operands_next _ _ _ _ _ c.loop-q-test.true (c.row.ensures.0 ∙ read_operands _ _ _ _ _ _ _ _ c.if-left-eq0.false (named_node c.args.syntax c.args.language.now c.args.index.now c.args.uses.now _ c.args.bytes.now _ c.class_place-class.ensures c.production_place-place.ensures c.if-place-eq0.false c.first_operand-first.ensures c.last_operand-last.ensures c.name_length-to.ensures.0) refl) c.in_ok-to-2.was) ∙ c.loop-q.invariant.3)

pub operands-returns : goal.operands-returns
operands-returns t c = (sym (operands_done _ _ _ _ _ c.loop-q-test.false) ∙ c.loop-q.invariant.3, c.loop-q.invariant.0)

pub row-bounds-language-from : goal.row-bounds-language-from
row-bounds-language-from t c = let b = c.requires.1 _ (omega arith) c.requires.2 in omega (arith, b.0)

pub row-class_place-class-requires : goal.row-class_place-class-requires
row-class_place-class-requires t c = let b = c.requires.1 _ (omega arith) c.requires.2 in omega (arith, c.requires.0.long, b.1)

pub row-token-requires : goal.row-token-requires
row-token-requires t c = let b = c.requires.1 _ (omega arith) c.requires.2 in (c.requires.3, λ h. class_at _ _ _ c.requires.0 b.1 c.class_place-class.ensures c.if-class-ne0.true)

pub row-returns-then-class-ne0 : goal.row-returns-then-class-ne0
row-returns-then-class-ne0 t c = (operands_last _ _ _ _ _ (omega (arith, c.if-stop-from-eq1.true)) (read_token_lem _ _ _ _ _ _ _ _ c.class_place-class.ensures c.if-class-ne0.true c.token.ensures.0), c.token.ensures.1)

pub row-operands-requires : goal.row-operands-requires
row-operands-requires t c = (omega (arith, c.decreases), (c.requires.0, c.requires.1, c.requires.3))

pub row-returns : goal.row-returns
row-returns t c = c.operands.ensures

pub operands-returns-in_err-to : goal.operands-returns-in_err-to
operands-returns-in_err-to t c =
    let r : c.from_residual.result ≡ Err c.in_err-to.field-0.0 = search rules in
    (r ∙ sym (operands_err _ _ _ _ _ c.loop-q-test.true (c.leaf.ensures.0 (sym c.production_place-place.ensures ∙ c.if-place-eq0.true)) c.in_err-to.was) ∙ c.loop-q.invariant.3, rw r tt)

pub operands-returns-in_err-to-2 : goal.operands-returns-in_err-to-2
operands-returns-in_err-to-2 t c =
    let r : c.from_residual-in_err-to-2.result ≡ Err c.in_err-to-2.field-0.0 = search rules in
    (r ∙ sym (operands_err _ _ _ _ _ c.loop-q-test.true (c.row.ensures.0 ∙ read_operands _ _ _ _ _ _ _ _ c.if-left-eq0.false (named_node c.args.syntax c.args.language.now c.args.index.now c.args.uses.now _ c.args.bytes.now _ c.class_place-class.ensures c.production_place-place.ensures c.if-place-eq0.false c.first_operand-first.ensures c.last_operand-last.ensures c.name_length-to.ensures.0) refl) c.in_err-to-2.was) ∙ c.loop-q.invariant.3, rw r tt)
