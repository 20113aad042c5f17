use native.Mathlib.Omega.{arith}
use Rattle.std.proofs.Common.{rules, ◌≡◌, Err}
use Rattle.reduce_operation.proofs.Operation.{reduce_ready, reduce_refused, reduce_done}
use Rattle.reduce_operation.proofs.reduce.reduce_ready.Goals as goal

pub returns-in_err-ready : goal.returns-in_err-ready
returns-in_err-ready c =
    let r : c.from_residual.result ≡ Err c.in_err-ready.field-0.0 = search rules in
    rw (r, ← c.in_err-ready.was) (reduce_refused c.args.pack.now c.args.workspace.now c.args.output.now c.ready.ensures c.in_err-ready.was)

pub work-evaluated-requires : goal.work-evaluated-requires
work-evaluated-requires c = let k = reduce_ready c.args.pack.now c.args.workspace.now c.args.output.now c.ready.ensures c.in_ok-ready.was in (k.0, k.1, omega arith)

pub deliver-outcome-requires : goal.deliver-outcome-requires
deliver-outcome-requires c = let k = reduce_ready c.args.pack.now c.args.workspace.now c.args.output.now c.ready.ensures c.in_ok-ready.was in ((_, (_, (_, c.work-evaluated.ensures.0 k.0.0 k.0.1 k.0.2))), k.2)

pub returns : goal.returns
returns c = reduce_done c.args.pack.now c.args.workspace.now c.args.output.now _ c.work-evaluated.result c.ready.ensures c.in_ok-ready.was c.work-evaluated.ensures.0 c.deliver-outcome.ensures _ c.work-evaluated.ensures.1 c.clear.ensures
