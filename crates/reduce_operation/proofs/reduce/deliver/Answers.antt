use native.Mathlib.Omega.{arith}
use Rattle.std.proofs.Common.{rules, ◌≡◌, Err}
use Rattle.reduce_operation.proofs.Operation.{deliver_refused, deliver_left, deliver_done}
use Rattle.reduce_operation.proofs.reduce.deliver.Goals as goal

pub returns-in_err-ended : goal.returns-in_err-ended
returns-in_err-ended c = λ o bytes rest s.
    let r : c.from_residual.result ≡ Err c.in_err-ended.field-0.0 = search rules in
    deliver_refused o bytes rest c.args.buffer.now s _ c.in_err-ended.was r

pub write-requires : goal.write-requires
write-requires c = let h = deliver_left _ _ _ _ c.requires.0.1.1.1 c.in_ok-ended.was in (h.inside, omega (arith, h.short, c.requires.1))

pub returns : goal.returns
returns c = λ o bytes rest s. deliver_done o bytes rest c.args.buffer.now s c.args.output.now _ c.in_ok-ended.was c.write.ensures
