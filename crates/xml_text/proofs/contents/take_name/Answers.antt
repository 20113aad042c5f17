use Rattle.std.proofs.Common.{refl, arith}
use Rattle.xml_text.proofs.Takes.{name_full, name_short, name_nothing, name_cut, name_done}
use Rattle.xml_text.proofs.contents.take_name.Goals as goal

pub returns-then-out-n-lt1 : goal.returns-then-out-n-lt1
returns-then-out-n-lt1 c = name_full _ _ _ _ c.requires.1 c.requires.2 c.if-out-n-lt1.true

pub returns-then-is_short : goal.returns-then-is_short
returns-then-is_short c =
    let w = c.is_short.ensures c.if-is_short.true in
    name_short _ _ _ _ c.requires.1 c.requires.0 (omega arith) w.0 w.1 refl

pub returns-in_err-name : goal.returns-in_err-name
returns-in_err-name c = rw c.from_residual.ensures (name_nothing _ _ _ _ c.requires.1 c.behind-a.ensures c.number_at.ensures c.in_err-name.was)

pub returns-then-text-b : goal.returns-then-text-b
returns-then-text-b c = name_cut _ _ _ _ c.requires.1 c.behind-a.ensures c.number_at.ensures c.in_ok-name.was c.if-text-b.true

pub returns : goal.returns
returns c = name_done _ _ _ _ c.requires.1 c.behind-a.ensures c.number_at.ensures c.in_ok-name.was c.if-text-b.false (omega arith) refl
