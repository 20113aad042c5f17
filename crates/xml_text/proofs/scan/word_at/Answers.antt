use Rattle.std.proofs.Common.{ap, arith, ◌≡◌, ◌+◌, drop}
use Rattle.xml_text.specs.Import.{read_word}
use Rattle.xml_text.proofs.Scans.{word_short, word_differs, word_again, word_there}
use Rattle.xml_text.proofs.scan.word_at.Goals as goal

pub returns-then-text-at : goal.returns-then-text-at
returns-then-text-at c = word_short _ _ _ c.requires c.if-text-at.true

pub loop-i-init : goal.loop-i-init
loop-i-init c =
    let e : c.args.at ≡ c.args.at + 0 = omega arith in
    ap (λ n. read_word c.args.word.now (drop n c.args.text.now)) e

pub returns-then-text-at-2 : goal.returns-then-text-at-2
returns-then-text-at-2 c = word_differs _ _ _ c.requires _ c.loop-i.invariant c.if-text-at.false (omega arith) c.if-text-at-2.true

pub loop-i-preserved : goal.loop-i-preserved
loop-i-preserved c = word_again _ _ _ c.requires _ c.loop-i.invariant c.if-text-at.false (omega arith) c.if-text-at-2.false

pub returns : goal.returns
returns c = word_there _ _ _ c.requires _ c.loop-i.invariant c.if-text-at.false (omega arith)
