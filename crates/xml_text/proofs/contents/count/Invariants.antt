use Rattle.std.proofs.Common.{◌≡◌, ◌+◌, ◌*◌, ◌≤◌, drop}
use Rattle.xml_text.specs.Inner.Contents.{bytes_in}
use Rattle.xml_text.proofs.contents.count.Given as goal

abbrev pub invariant-loop-at : goal.invariant-loop-at
invariant-loop-at l = record {
  counted : l.n + bytes_in (drop l.at l.text) ≡ bytes_in l.text;
  few : l.n ≤ 2 * l.at;
}
