use Rattle.std.proofs.Common.{◌≡◌, drop}
use Rattle.xml_text.specs.Inner.Contents.{after}
use Rattle.xml_text.proofs.contents.behind.Given as goal

abbrev pub invariant-loop-to : goal.invariant-loop-to
invariant-loop-to l = after l.byte (drop l.to l.text) ≡ after l.byte (drop l.at l.text)
