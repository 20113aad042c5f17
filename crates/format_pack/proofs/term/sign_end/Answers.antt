use mathlib.Core.Path.{ap, ◌∙◌}
use native.Mathlib.Omega.{arith}
use Rattle.format_pack.specs.Inner.Reading.{rest_at}
use Rattle.format_pack.proofs.Readings.{sign_past, sign_low, sign_high, sign_plain, sign_make, sign_constant, sign_variable}
use Rattle.format_pack.proofs.term.sign_end.Goals as goal
use Rattle.format_pack.proofs.term.sign_end.Goals.{then-sign-first-via-then-sign-first, then-sign-first-via-else-sign-first+then-first-sign, then-not-has_number-via-then-not-has_number, then-not-has_number-via-else-not-has_number+then-sign-eq-MAKE}

pub returns-in_err-sign-clause-is : goal.returns-in_err-sign-clause-is
returns-in_err-sign-clause-is c = ap (rest_at c.args.s.now) c.from_residual.ensures ∙ sign_past _ _ _ _ c.in_err-sign.ensures.lookup.3

pub returns-then-sign-first-clause-is : goal.returns-then-sign-first-clause-is
returns-then-sign-first-clause-is c =
    let first = c.first_sign-first.ensures in
    elim c.then-sign-first.branch [
      | then-sign-first-via-then-sign-first w ↦ sign_low _ _ _ _ c.in_ok-sign.ensures.lookup.3.0 _ (c.in_ok-sign.ensures.lookup.3.1 0) (omega (arith, w.if-sign-first.true))
      | then-sign-first-via-else-sign-first+then-first-sign w ↦ sign_high _ _ _ _ c.in_ok-sign.ensures.lookup.3.0 _ (c.in_ok-sign.ensures.lookup.3.1 0) (omega (arith, w.if-sign-first.false)) (omega (arith, w.if-first-sign.true))
    ]

pub returns-then-not-has_number-clause-is : goal.returns-then-not-has_number-clause-is
returns-then-not-has_number-clause-is c =
    let first = c.first_sign-first.ensures in
    elim c.then-not-has_number.branch [
      | then-not-has_number-via-then-not-has_number w ↦ sign_plain _ _ _ _ c.in_ok-sign.ensures.lookup.3.0 _ (c.in_ok-sign.ensures.lookup.3.1 0) (omega arith) (omega arith) _ c.has_number.ensures w.if-not-has_number.true
      | then-not-has_number-via-else-not-has_number+then-sign-eq-MAKE w ↦ sign_make _ _ _ _ c.in_ok-sign.ensures.lookup.3.0 _ (c.in_ok-sign.ensures.lookup.3.1 0) (omega arith) (omega arith) _ c.has_number.ensures w.if-not-has_number.false w.if-sign-eq-MAKE.true
    ]

pub returns-then-sign-eq-CONSTANT-clause-is : goal.returns-then-sign-eq-CONSTANT-clause-is
returns-then-sign-eq-CONSTANT-clause-is c =
    let first = c.first_sign-first.ensures in
    c.number_end.ensures.is ∙ sign_constant _ _ _ _ c.in_ok-sign.ensures.lookup.3.0 _ (c.in_ok-sign.ensures.lookup.3.1 0) (omega arith) (omega arith) _ c.has_number.ensures c.if-not-has_number.false c.if-sign-eq-MAKE.false c.if-sign-eq-CONSTANT.true

pub returns-clause-is : goal.returns-clause-is
returns-clause-is c =
    let first = c.first_sign-first.ensures in
    c.number_end-2.ensures.is ∙ sign_variable _ _ _ _ c.in_ok-sign.ensures.lookup.3.0 _ (c.in_ok-sign.ensures.lookup.3.1 0) (omega arith) (omega arith) _ c.has_number.ensures c.if-not-has_number.false c.if-sign-eq-MAKE.false c.if-sign-eq-CONSTANT.false
