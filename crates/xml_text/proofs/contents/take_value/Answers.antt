use Rattle.std.proofs.Common.{refl, arith}
use Rattle.xml_text.proofs.Scans.{is_inside}
use Rattle.xml_text.proofs.Takes.{value_full, value_cut, value_nothing, value_short, value_done, second_in}
use Rattle.xml_text.proofs.contents.take_value.Goals as goal

pub returns-then-out-n-lt2 : goal.returns-then-out-n-lt2
returns-then-out-n-lt2 c = value_full _ _ _ _ (omega arith) c.requires.1 c.requires.2 c.requires.3 c.if-out-n-lt2.true

pub returns-then-text-a-lt6 : goal.returns-then-text-a-lt6
returns-then-text-a-lt6 c = value_cut _ _ _ _ (omega arith) c.requires.1 c.requires.2 c.behind-a.ensures c.if-text-a-lt6.true

pub returns-in_err-value : goal.returns-in_err-value
returns-in_err-value c =
    rw c.from_residual.ensures (value_nothing _ _ _ _ (omega arith) c.requires.1 c.requires.2 c.behind-a.ensures c.value_at.ensures c.in_err-value.was)

pub overflow_sub-text-2 : goal.overflow_sub-text-2
overflow_sub-text-2 c = is_inside c.value_at.ensures c.in_ok-value.was

pub returns-then-text-b : goal.returns-then-text-b
returns-then-text-b c =
    value_short _ _ _ _ (omega arith) c.requires.1 c.requires.2 c.behind-a.ensures c.value_at.ensures c.in_ok-value.was c.if-text-b.true

pub overflow_cast-out : goal.overflow_cast-out
overflow_cast-out c = let w = c.value_at.ensures.small _ _ c.in_ok-value.was in omega (arith, w)

pub bounds-out-n-2 : goal.bounds-out-n-2
bounds-out-n-2 c = second_in c.args.out.now c.args.n c.in_ok-value.was c.if-out-n-lt2.false

pub returns : goal.returns
returns c =
    value_done _ _ _ _ (omega arith) c.requires.1 c.requires.2 c.behind-a.ensures c.value_at.ensures c.in_ok-value.was c.if-text-b.false
    (is_inside c.value_at.ensures c.in_ok-value.was) (omega arith) refl refl
