use Rattle.xml_text.proofs.Scans.{bytes_of, class_high, token_nothing, token_cut, token_second, token_out, token_third, token_done}
use Rattle.xml_text.proofs.scan.token_at.Goals as goal

pub returns-in_err-begun : goal.returns-in_err-begun
returns-in_err-begun c =
    rw c.from_residual.ensures (token_nothing _ _ _ _ (class_high _ _ (bytes_of _ c.type_inv.language)) c.begin_at.ensures c.in_err-begun.was)

pub returns-then-text-begun-lt-DIGITS : goal.returns-then-text-begun-lt-DIGITS
returns-then-text-begun-lt-DIGITS c =
    token_cut _ _ _ _ (class_high _ _ (bytes_of _ c.type_inv.language)) c.begin_at.ensures c.in_ok-begun.was c.if-text-begun-lt-DIGITS.true

pub returns-in_err-value : goal.returns-in_err-value
returns-in_err-value c =
    rw c.from_residual-in_err-value.ensures
    (token_second _ _ _ _ (class_high _ _ (bytes_of _ c.type_inv.language)) c.begin_at.ensures c.in_ok-begun.was c.value_at.ensures c.in_err-value.was)

pub returns-then-not-in_range : goal.returns-then-not-in_range
returns-then-not-in_range c =
    token_out _ _ _ _ (class_high _ _ (bytes_of _ c.type_inv.language)) c.begin_at.ensures c.in_ok-begun.was c.value_at.ensures c.in_ok-value.was c.in_range.ensures c.if-not-in_range.true

pub returns-in_err-end : goal.returns-in_err-end
returns-in_err-end c =
    rw c.from_residual-in_err-end.ensures
    (token_third _ _ _ _ (class_high _ _ (bytes_of _ c.type_inv.language)) c.begin_at.ensures c.in_ok-begun.was c.value_at.ensures c.in_ok-value.was c.in_range.ensures c.if-not-in_range.false
    c.same_at.ensures c.in_err-end.was)

pub returns : goal.returns
returns c =
    token_done _ _ _ _ (class_high _ _ (bytes_of _ c.type_inv.language)) c.begin_at.ensures c.in_ok-begun.was c.value_at.ensures c.in_ok-value.was c.in_range.ensures c.if-not-in_range.false
    c.same_at.ensures c.in_ok-end.was
