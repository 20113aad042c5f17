use Rattle.std.proofs.Common.{rules, ◌≡◌, Err}
use Rattle.reduce_operators.specs.Inner.Assembled.{assembled}
use Rattle.reduce_join.proofs.Joined.{given_whole, finish_refused, finish_checked}
use Rattle.reduce_join.proofs.join.finish.Goals as goal

pub returns-in_err-n : goal.returns-in_err-n
returns-in_err-n c = λ f g x y h k l a b d.
    let r : c.from_residual.result ≡ Err c.in_err-n.field-0.0 = search rules in
    rw r (finish_refused f g x y h k l _ _ _ _ _ a b d _ c.assemble.ensures c.in_err-n.was)

pub slice_bounds-checked_length-end : goal.slice_bounds-checked_length-end
slice_bounds-checked_length-end c = (given_whole (assembled c.args.parts.source.now c.args.parts.target.now c.args.parts.body.now) _ _ _ c.assemble.ensures _ c.in_ok-n.was).room

pub returns : goal.returns
returns c = λ f g x y h k l a b d. finish_checked f g x y h k l _ _ _ _ _ a b d _ c.assemble.ensures _ c.in_ok-n.was _ c.checked_length.ensures
