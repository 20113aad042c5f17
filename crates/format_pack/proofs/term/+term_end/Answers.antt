use mathlib.Core.Path.{refl, ap, ◌∙◌}
use Rattle.format_pack.specs.Inner.Reading.{rest_at}
use Rattle.format_pack.proofs.Readings.{term_none, term_deep, term_sign, term_first, term_second, term_whole}
use Rattle.format_pack.proofs.term.+term_end.Goals as goal

pub returns-in_default-clause-is : goal.returns-in_default-clause-is
returns-in_default-clause-is t c = term_none _ _ _ c.args.s.now c.args.at c.in_default.is

pub returns-then-levels-eq0-clause-is : goal.returns-then-levels-eq0-clause-is
returns-then-levels-eq0-clause-is t c = term_deep _ _ _ c.args.s.now c.args.at c.in-Some.is c.if-levels-eq0.true

pub returns-in_err-a-clause-is : goal.returns-in_err-a-clause-is
returns-in_err-a-clause-is t c =
    ap (rest_at c.args.s.now) c.from_residual.ensures
    ∙ term_sign _ _ _ c.args.s.now c.args.at c.in-Some.is c.if-levels-eq0.false _ refl c.sign_end.ensures.is c.in_err-a.was

pub returns-in_err-b-clause-is : goal.returns-in_err-b-clause-is
returns-in_err-b-clause-is t c =
    ap (rest_at c.args.s.now) c.from_residual-in_err-b.ensures
    ∙ term_first _ _ _ c.args.s.now c.args.at c.in-Some.is c.if-levels-eq0.false _ c.byte_at-sign.ensures c.sign_end.ensures.is c.in_ok-a.was
    c.first_operand.ensures _ c.term_end.ensures.is c.in_err-b.was

pub returns-in_err-c-clause-is : goal.returns-in_err-c-clause-is
returns-in_err-c-clause-is t c =
    ap (rest_at c.args.s.now) c.from_residual-in_err-c.ensures
    ∙ term_second _ _ _ c.args.s.now c.args.at c.in-Some.is c.if-levels-eq0.false _ c.byte_at-sign.ensures c.sign_end.ensures.is c.in_ok-a.was
    c.first_operand.ensures _ c.term_end.ensures.is c.in_ok-b.was
    c.second_operand.ensures _ c.term_end-2.ensures.is c.in_err-c.was

pub returns-clause-is : goal.returns-clause-is
returns-clause-is t c =
    term_whole _ _ _ c.args.s.now c.args.at c.in-Some.is c.if-levels-eq0.false _ c.byte_at-sign.ensures c.sign_end.ensures.is c.in_ok-a.was
    c.first_operand.ensures _ c.term_end.ensures.is c.in_ok-b.was
    c.second_operand.ensures _ c.term_end-2.ensures.is c.in_ok-c.was c.last_end.ensures.is
