use Rattle.std.proofs.Common.{◌≡◌, ◌+◌, drop}
use Rattle.xml_text.specs.Import.{read_word}
use Rattle.xml_text.proofs.scan.word_at.Given as goal

abbrev pub invariant-loop-i : goal.invariant-loop-i
invariant-loop-i l = read_word l.word (drop l.at l.text) ≡ read_word (drop l.i l.word) (drop (l.at + l.i) l.text)
