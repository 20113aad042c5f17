use Rattle.std.proofs.Common.{rules, ◌≡◌, Err, arith}
use Rattle.xml_operations.proofs.Measures.{sum_top, token_err, token_there, token_end}
use Rattle.xml_operations.proofs.measure.measure_token.Goals as goal

pub returns-in_err-end : goal.returns-in_err-end
returns-in_err-end c =
    let r : c.from_residual.result ≡ Err c.in_err-end.field-0.0 = search rules in
    rw r (token_err _ _ _ _ _ _ (λ z. omega arith) c.token.ensures.0 c.in_err-end.was)

pub pair_in-requires : goal.pair_in-requires
pair_in-requires c = omega (arith, token_there c.args.kind _ _ _ _ c.args.n (λ z. omega arith) c.token.ensures.0 c.in_ok-end.was)

pub returns : goal.returns
returns c =
    token_end _ _ _ _ _ _ (λ z. omega arith) c.token.ensures.0 c.in_ok-end.was c.from.ensures c.width.ensures.0 c.pair_in.ensures.0 c.width-2.ensures.0
    (sum_top c.saturating_add.ensures)
