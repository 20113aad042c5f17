use native.Mathlib.Omega.{arith}
use Rattle.std.proofs.Common.{rules, ◌≡◌, Err}
use mathlib.Core.Path.{ap, ◌∙◌}
use Rattle.reduce_signs.specs.Inner.Sorts.{sort_of}
use Rattle.reduce_signs.specs.Inner.Values.{slot_of}
use Rattle.reduce_terms.proofs.Giving.{begins_as, asks_in, asks_level, unknown_sign, operand_room, operand_to, first_asks, first_refused, second_asks, second_refused, both_to, binary_asks, binary_values, binary_refused, binary_gives, unary_asks, unary_value, unary_refused, unary_gives, constant_asks, constant_gives, variable_asks, variable_gives, make_asks, make_values, make_next, make_refused, make_gives, let_asks, let_number, let_inner, let_refused, let_gives}
use Rattle.reduce_terms.proofs.terms.+binary_term_language_term_let_term_make_term_operand_operands_term_by_form_term_of_translation_term_unary_term.Goals as goal

pub binary_term-operands-requires : goal.binary_term-operands-requires
binary_term-operands-requires t c = (omega arith, (binary_asks c.args.pack.now c.args.at c.args.operator c.requires.2 c.requires.3 c.first_sort-first.ensures c.second_sort-second.ensures c.requires.0, c.requires.2, c.requires.1))

pub binary_term-apply-requires : goal.binary_term-apply-requires
binary_term-apply-requires t c = let k = binary_values c.args.pack.now c.args.at c.args.operator c.requires.2 c.requires.3 c.first_sort-first.ensures c.second_sort-second.ensures c.operands.ensures c.in_ok-both.was c.requires.0 in (k.0, k.1, k.2, k.3, omega (arith, c.requires.1, c.operands.ensures.long))

pub binary_term-returns-in_err-both : goal.binary_term-returns-in_err-both
binary_term-returns-in_err-both t c =
    let r : c.from_residual.result ≡ Err c.in_err-both.field-0.0 = search rules in
    rw r (binary_refused c.args.pack.now c.args.at c.args.operator c.requires.2 c.requires.3 c.first_sort-first.ensures c.second_sort-second.ensures c.operands.ensures c.in_err-both.was)

pub binary_term-returns : goal.binary_term-returns
binary_term-returns t c = binary_gives c.args.pack.now c.args.at c.args.operator c.requires.2 c.requires.3 c.first_sort-first.ensures c.second_sort-second.ensures c.operands.ensures c.in_ok-both.was c.requires.0 c.apply.ensures c.finish.ensures

pub let_term-operand-requires : goal.let_term-operand-requires
let_term-operand-requires t c = (omega arith, (let_asks c.args.pack.now c.args.at (sort_of c.args.bound) (sort_of c.args.sort) c.requires.2 c.requires.3 c.requires.0, c.requires.1))

pub let_term-slot_of-slot-requires : goal.let_term-slot_of-slot-requires
let_term-slot_of-slot-requires t c = omega (arith, (let_number c.args.pack.now c.args.at (sort_of c.args.bound) (sort_of c.args.sort) c.requires.2 c.requires.3 c.requires.0).1, (c.from.ensures ∙ c.byte_at.ensures))

pub let_term-term_of-requires : goal.let_term-term_of-requires
let_term-term_of-requires t c = (omega arith, (let_inner c.args.pack.now c.args.at (sort_of c.args.bound) (sort_of c.args.sort) c.requires.2 c.requires.3 c.operand.ensures c.in_ok-ended.was (c.slot_of-slot.ensures.0 ∙ ap (slot_of (sort_of c.args.bound)) (c.from.ensures ∙ c.byte_at.ensures)) c.set_slot-inner.ensures c.requires.0, omega (arith, c.requires.1, c.operand.ensures.long)))

pub let_term-returns-in_err-ended : goal.let_term-returns-in_err-ended
let_term-returns-in_err-ended t c =
    let r : c.from_residual.result ≡ Err c.in_err-ended.field-0.0 = search rules in
    rw r (let_refused c.args.pack.now c.args.at (sort_of c.args.bound) (sort_of c.args.sort) c.requires.2 c.requires.3 c.operand.ensures c.in_err-ended.was)

pub let_term-returns : goal.let_term-returns
let_term-returns t c = let_gives c.args.pack.now c.args.at (sort_of c.args.bound) (sort_of c.args.sort) c.requires.2 c.requires.3 c.operand.ensures c.in_ok-ended.was (c.slot_of-slot.ensures.0 ∙ ap (slot_of (sort_of c.args.bound)) (c.from.ensures ∙ c.byte_at.ensures)) c.set_slot-inner.ensures c.requires.0 c.term_of.ensures

pub make_term-operands-requires : goal.make_term-operands-requires
make_term-operands-requires t c = (omega arith, (make_asks c.args.pack.now c.args.at c.requires.2 c.requires.3 c.requires.0, c.requires.2, c.requires.1))

pub make_term-apply-requires : goal.make_term-apply-requires
make_term-apply-requires t c = let k = make_values c.args.pack.now c.args.at c.requires.2 c.requires.3 c.operands.ensures c.in_ok-both.was (c.from.ensures ∙ c.byte_at.ensures) c.requires.0 in (k.0, k.1, k.2, k.3, omega (arith, c.requires.1, c.operands.ensures.long))

pub make_term-overflow_add-both : goal.make_term-overflow_add-both
make_term-overflow_add-both t c = omega (arith, make_next c.args.pack.now c.args.at c.requires.2 c.requires.3 c.operands.ensures c.in_ok-both.was c.requires.0)

pub make_term-returns-in_err-both : goal.make_term-returns-in_err-both
make_term-returns-in_err-both t c =
    let r : c.from_residual.result ≡ Err c.in_err-both.field-0.0 = search rules in
    rw r (make_refused c.args.pack.now c.args.at c.requires.2 c.requires.3 c.operands.ensures c.in_err-both.was)

pub make_term-returns : goal.make_term-returns
make_term-returns t c = make_gives c.args.pack.now c.args.at c.requires.2 c.requires.3 c.operands.ensures c.in_ok-both.was (c.from.ensures ∙ c.byte_at.ensures) c.requires.0 c.apply.ensures c.finish.ensures

pub operand-save-requires : goal.operand-save-requires
operand-save-requires t c = operand_room c.term_of.ensures c.in_ok-ended.was c.requires.0

pub operand-overflow_add-result : goal.operand-overflow_add-result
operand-overflow_add-result t c = omega (arith, (operand_room c.term_of.ensures c.in_ok-ended.was c.requires.0).1, c.term_of.ensures.kept.long, c.well_formed.1.1.1.1.1.0.1)

pub operand-returns : goal.operand-returns
operand-returns t c = operand_to c.term_of.ensures c.in_ok-ended.was (operand_room c.term_of.ensures c.in_ok-ended.was c.requires.0).1 c.save.ensures

pub operands-overflow_add-at : goal.operands-overflow_add-at
operands-overflow_add-at t c = omega (arith, asks_in (first_asks c.args.at (sort_of c.args.second) c.requires.1 c.requires.0))

pub operands-operand-requires : goal.operands-operand-requires
operands-operand-requires t c = (omega arith, (first_asks c.args.at (sort_of c.args.second) c.requires.1 c.requires.0, c.requires.2))

pub operands-operand-requires-2 : goal.operands-operand-requires-2
operands-operand-requires-2 t c = (omega arith, (second_asks c.args.at (sort_of c.args.second) c.requires.1 c.operand.ensures c.in_ok-left.was c.requires.0, omega (arith, c.requires.2, c.operand.ensures.long)))

pub operands-returns-in_err-left : goal.operands-returns-in_err-left
operands-returns-in_err-left t c =
    let r : c.from_residual.result ≡ Err c.in_err-left.field-0.0 = search rules in
    rw r (first_refused c.args.at (sort_of c.args.second) c.requires.1 c.operand.ensures c.in_err-left.was)

pub operands-returns-in_err-right : goal.operands-returns-in_err-right
operands-returns-in_err-right t c =
    let r : c.from_residual-in_err-right.result ≡ Err c.in_err-right.field-0.0 = search rules in
    rw r (second_refused c.args.at (sort_of c.args.second) c.requires.1 c.operand.ensures c.in_ok-left.was c.requires.0 c.operand-2.ensures c.in_err-right.was)

pub operands-returns : goal.operands-returns
operands-returns t c = both_to c.args.at (sort_of c.args.second) c.requires.1 c.operand.ensures c.in_ok-left.was c.requires.0 c.operand-2.ensures c.in_ok-right.was

pub term_by_form-constant-requires : goal.term_by_form-constant-requires
term_by_form-constant-requires t c = let k = constant_asks c.args.pack.now c.args.at c.requires.2 (begins_as _ _ c.in-Constant.is c.requires.3) c.requires.0 in (k.0, k.1, c.requires.1)

pub term_by_form-variable-requires : goal.term_by_form-variable-requires
term_by_form-variable-requires t c = let k = variable_asks c.args.pack.now c.args.at c.requires.2 (sort_of c.args.sort) (begins_as _ _ c.in-Variable.is c.requires.3) c.requires.0 in (k.0, k.1, k.2, c.requires.1)

pub term_by_form-returns-in-Constant : goal.term_by_form-returns-in-Constant
term_by_form-returns-in-Constant t c = constant_gives c.args.pack.now c.args.at c.requires.2 (begins_as _ _ c.in-Constant.is c.requires.3) c.requires.0 c.constant.ensures

pub term_by_form-returns-in-Variable : goal.term_by_form-returns-in-Variable
term_by_form-returns-in-Variable t c = variable_gives c.args.pack.now c.args.at c.requires.2 (sort_of c.args.sort) (begins_as _ _ c.in-Variable.is c.requires.3) c.requires.0 c.variable.ensures

pub term_by_form-returns-in-Unknown : goal.term_by_form-returns-in-Unknown
term_by_form-returns-in-Unknown t c = unknown_sign c.requires.0 c.requires.2 c.in-Unknown.is c.requires.3

pub unary_term-operand-requires : goal.unary_term-operand-requires
unary_term-operand-requires t c = (omega arith, (unary_asks c.args.pack.now c.args.at c.args.operator c.requires.2 c.requires.3 c.operand_sort-sort.ensures c.requires.0, c.requires.1))

pub unary_term-apply-requires : goal.unary_term-apply-requires
unary_term-apply-requires t c = let k = unary_value c.args.pack.now c.args.at c.args.operator c.requires.2 c.requires.3 c.operand_sort-sort.ensures c.operand.ensures c.in_ok-ended.was c.requires.0 in (k.0, k.1, k.2, k.3, omega (arith, c.requires.1, c.operand.ensures.long))

pub unary_term-returns-in_err-ended : goal.unary_term-returns-in_err-ended
unary_term-returns-in_err-ended t c =
    let r : c.from_residual.result ≡ Err c.in_err-ended.field-0.0 = search rules in
    rw r (unary_refused c.args.pack.now c.args.at c.args.operator c.requires.2 c.requires.3 c.operand_sort-sort.ensures c.operand.ensures c.in_err-ended.was)

pub unary_term-returns : goal.unary_term-returns
unary_term-returns t c = unary_gives c.args.pack.now c.args.at c.args.operator c.requires.2 c.requires.3 c.operand_sort-sort.ensures c.operand.ensures c.in_ok-ended.was c.requires.0 c.apply.ensures c.finish.ensures

pub language_term-returns-then-levels-eq0 : goal.language_term-returns-then-levels-eq0
language_term-returns-then-levels-eq0 t c = asks_level c.requires.0 c.if-levels-eq0.true

pub translation_term-returns-then-levels-eq0 : goal.translation_term-returns-then-levels-eq0
translation_term-returns-then-levels-eq0 t c = asks_level c.requires.0 c.if-levels-eq0.true
