use Rattle.std.proofs.Common.{◌≡◌, ◌+◌, ◌-◌, ◌<◌, length, inl, inr, suc, arith}
use Rattle.xml_text.proofs.Scans.{digit_is, number_zero, number_other, first_range, number_start, number_last, number_stops, number_again, number_large, next_power, six_digits}
use Rattle.xml_text.proofs.scan.number_before.Goals as goal

pub returns-then-text-at-eq-ZERO : goal.returns-then-text-at-eq-ZERO
returns-then-text-at-eq-ZERO c = number_zero _ _ (omega arith) c.if-text-at-eq-ZERO.true

pub returns-then-not-is_ascii_digit : goal.returns-then-not-is_ascii_digit
returns-then-not-is_ascii_digit c =
    number_other _ _ (omega arith) c.if-text-at-eq-ZERO.false (digit_is _ c.is_ascii_digit.ensures.value) c.if-not-is_ascii_digit.true

pub loop-i-init : goal.loop-i-init
loop-i-init c =
    let there : c.args.at < length c.args.text.now = omega arith in
    let digit = digit_is _ c.is_ascii_digit.ensures.value in
    let range = first_range _ _ there c.if-text-at-eq-ZERO.false digit c.if-not-is_ascii_digit.false in
    record {
      reads = number_start _ _ there c.if-text-at-eq-ZERO.false digit c.if-not-is_ascii_digit.false c.from-value.ensures;
      small = omega (arith, range.1);
      large = omega (arith, range.0, c.if-text-at-eq-ZERO.false);
    }

pub returns-then-not-is_ascii_digit-2 : goal.returns-then-not-is_ascii_digit-2
returns-then-not-is_ascii_digit-2 c =
    let w = c.loop-i.invariant in
    number_stops _ _ _ _ w.reads w.small (omega arith) (omega arith) (digit_is _ c.is_ascii_digit-in-loop-i.ensures.value) c.if-not-is_ascii_digit-2.true

pub returns-then-value-gt-LARGEST : goal.returns-then-value-gt-LARGEST
returns-then-value-gt-LARGEST c =
    let w = c.loop-i.invariant in
    number_large _ _ _ _ w.reads w.small (omega arith) (omega arith) (digit_is _ c.is_ascii_digit-in-loop-i.ensures.value) c.if-not-is_ascii_digit-2.false c.from.ensures c.if-value-gt-LARGEST.true

pub loop-i-preserved : goal.loop-i-preserved
loop-i-preserved c =
    let w = c.loop-i.invariant in
    let next : c.args.at + c.loop-i.i + 1 ≡ c.args.at + (c.loop-i.i + 1) = omega arith in
    let power : suc (c.loop-i.i - 1) ≡ c.loop-i.i + 1 - 1 = omega arith in
    record {
      reads = rw (← next) (number_again c.args.text.now c.args.at c.loop-i.value (c.args.at + c.loop-i.i) w.reads w.small (omega arith) (omega arith) (digit_is _ c.is_ascii_digit-in-loop-i.ensures.value) c.if-not-is_ascii_digit-2.false c.from.ensures);
      small = omega arith;
      large = rw (← power) (next_power _ _ _ w.large);
    }

pub returns : goal.returns
returns c =
    let w = c.loop-i.invariant in
    let last : c.args.at + c.loop-i.i ≡ c.args.end = omega arith in
    elim c.requires.2 [
      | inl e ↦ number_last _ _ _ _ w.reads w.small (omega arith) last (omega arith)
      | inr h ↦ six_digits (c.loop-i.i - 1) _ (omega arith) w.large w.small
    ]
