use Rattle.std.proofs.Common.{arith}
use Rattle.xml_text.proofs.Scans.{opening_nothing, opening_third, opening_fourth, opening_done}
use Rattle.xml_text.proofs.scan.opening_at.Goals as goal

pub returns-in_err-begun : goal.returns-in_err-begun
returns-in_err-begun c = rw c.from_residual.ensures (opening_nothing _ _ _ c.begin_at.ensures c.in_err-begun.was)

pub returns-in_err-name : goal.returns-in_err-name
returns-in_err-name c =
    rw c.from_residual-in_err-name.ensures (opening_third _ _ _ c.begin_at.ensures c.in_ok-begun.was c.number_at.ensures c.in_err-name.was)

pub returns-in_err-end : goal.returns-in_err-end
returns-in_err-end c =
    rw c.from_residual-in_err-end.ensures
    (opening_fourth _ _ _ c.begin_at.ensures c.in_ok-begun.was c.number_at.ensures c.in_ok-name.was c.word_at.ensures c.in_err-end.was)

pub returns : goal.returns
returns c =
    opening_done _ _ _ c.begin_at.ensures c.in_ok-begun.was c.number_at.ensures c.in_ok-name.was c.word_at.ensures c.in_ok-end.was (omega arith)
