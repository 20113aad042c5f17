use Rattle.std.proofs.Common.{ℕ, ◌-◌, ◌≤◌, List, length}
use Rattle.xml_text.specs.Inner.Contents.{Contents, Written-to}
use Rattle.xml_text.proofs.contents.write_contents.Given as goal

abbrev pub invariant-loop-at : goal.invariant-loop-at
invariant-loop-at l = record {
  inside : l.at ≤ length l.text;
  room : l.n ≤ length l.out;
  taken : (v : List ℕ) → Contents l.text v → length v ≤ length l.initial.out → Written-to v l.text l.initial.out l.out 0 l.at l.n;
}

abbrev pub decreases-loop-at : goal.decreases-loop-at
decreases-loop-at l = length l.text - l.at
