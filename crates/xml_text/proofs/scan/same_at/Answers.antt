use Rattle.std.proofs.Common.{arith, ◌≡◌, ◌+◌, ◌-◌}
use Rattle.xml_text.proofs.Scans.{closes_not, closes_name}
use Rattle.xml_text.proofs.scan.same_at.Goals as goal

pub returns-in_err-name : goal.returns-in_err-name
returns-in_err-name c = rw c.from_residual.ensures (closes_not _ _ _ _ c.word_at.ensures c.in_err-name.was)

pub returns : goal.returns
returns c =
    let e : c.args.tag + (c.args.size - 1) - (c.args.tag + 1) ≡ c.args.size - 2 = omega arith in
    let p = c.word_at.ensures.reached _ c.in_ok-name.was in
    closes_name _ _ _ _ c.word_at.ensures c.in_ok-name.was (omega (arith, p.past)) (rw e at c.word_at-2.ensures)
