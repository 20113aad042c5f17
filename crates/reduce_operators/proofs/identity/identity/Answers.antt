use mathlib.Core.Path.{refl}
use native.Mathlib.Omega.{arith}
use Rattle.std.proofs.Common.{rules, ◌≡◌, Some, None, Err}
use Rattle.outcome.specs.declared.Reason.TheVariants.{ValueTooLarge}
use Rattle.reduce_operators.proofs.Given.{stored_room, stored_length}
use Rattle.reduce_operators.proofs.Accepted.{language_entries, language_short}
use Rattle.reduce_operators.proofs.SameItem.{items_over, identity_given}
use Rattle.reduce_operators.proofs.identity.identity.Goals as goal

pub put_items-requires : goal.put_items-requires
put_items-requires c = (_, language_entries _ _ c.requires.0.1)

pub returns-in_err-n : goal.returns-in_err-n
returns-in_err-n c = λ l e.
    let r : c.from_residual.result ≡ Err ValueTooLarge = search rules in
    let n : c.put_items.result ≡ None = search rules in
    rw r (items_over _ l e _ _ _ (c.put_items.ensures l (language_entries _ l e)) n refl _)

pub slice_bounds-body-end : goal.slice_bounds-body-end
slice_bounds-body-end c =
    let n : c.put_items.result ≡ Some c.in_ok-n.n = search rules in
    stored_room _ _ _ _ _ (c.put_items.ensures _ (language_entries _ _ c.requires.0.1)) n c.put_items.auto.out

pub slice_bounds-parts-end : goal.slice_bounds-parts-end
slice_bounds-parts-end c =
    let n : c.put_items.result ≡ Some c.in_ok-n.n = grind arith in
    stored_length _ _ _ _ _ (c.put_items.ensures _ (language_entries _ _ c.requires.0.1)) n c.put_items.auto.out

pub assemble-requires : goal.assemble-requires
assemble-requires c = (language_short _ _ c.requires.0.1, language_short _ _ c.requires.0.1, c.requires.1)

pub returns : goal.returns
returns c = λ l e.
    let n : c.put_items.result ≡ Some c.in_ok-n.n = grind arith in
    identity_given _ l e _ _ _ (c.put_items.ensures l (language_entries _ l e)) _ n _ _ _ c.assemble.ensures
