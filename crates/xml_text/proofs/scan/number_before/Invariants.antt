use Rattle.std.proofs.Common.{◌≡◌, ◌+◌, ◌-◌, ◌^◌, ◌<◌, ◌≤◌, drop}
use Rattle.xml_text.specs.Import.{read_number, read_digits}
use Rattle.xml_text.proofs.scan.number_before.Given as goal

abbrev pub invariant-loop-i : goal.invariant-loop-i
invariant-loop-i l = record {
  reads : read_number (drop l.at l.text) ≡ read_digits l.value (drop (l.at + l.i) l.text);
  small : l.value < 65536;
  large : 10 ^ (l.i - 1) ≤ l.value;
}
