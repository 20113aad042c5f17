use mathlib.Core.Path.{refl}
use Rattle.std.proofs.Common.{rules, ◌≡◌, Some, None, Err}
use Rattle.outcome.specs.declared.Reason.TheVariants.{ValueTooLarge}
use Rattle.tree_reader.proofs.Lookup.{zeros}
use Rattle.reduce_operators.proofs.Given.{stored_room, stored_length}
use Rattle.reduce_operators.proofs.Keeping.{left_entries, left_body, left_target, kept_too_long, kept_given}
use Rattle.reduce_operators.proofs.keep.keep_parts.Goals as goal

pub build-requires : goal.build-requires
build-requires c = (c.requires.0.2.short, refl, zeros 8224)

pub keep_items-requires : goal.keep_items-requires
keep_items-requires c = ((_, left_body _ _ _ _ _ c.requires.0.2), (_, c.build.ensures _ (left_entries _ _ _ _ _ c.requires.0.2)))

pub returns-in_err-n : goal.returns-in_err-n
returns-in_err-n c = λ f m w.
    let r : c.from_residual.result ≡ Err ValueTooLarge = search rules in
    let n : c.keep_items.result ≡ None = search rules in
    rw r (kept_too_long _ _ _ f m w _ _ _ (c.keep_items.ensures _ (c.build.ensures _ (left_entries _ _ _ f m w))) _ n refl)

pub slice_bounds-kept-end : goal.slice_bounds-kept-end
slice_bounds-kept-end c =
    let n : c.keep_items.result ≡ Some c.in_ok-n.n = search rules in
    stored_room _ _ _ _ _ (c.keep_items.ensures _ (c.build.ensures _ (left_entries _ _ _ _ _ c.requires.0.2))) n c.keep_items.auto.out

pub slice_bounds-body-end : goal.slice_bounds-body-end
slice_bounds-body-end c =
    let n : c.keep_items.result ≡ Some c.in_ok-n.n = search rules in
    stored_length _ _ _ _ _ (c.keep_items.ensures _ (c.build.ensures _ (left_entries _ _ _ _ _ c.requires.0.2))) n c.keep_items.auto.out

pub assemble-requires : goal.assemble-requires
assemble-requires c = (c.requires.0.2.short, left_target _ _ _ _ _ c.requires.0.2, c.requires.1)

pub returns : goal.returns
returns c = λ f m w.
    let n : c.keep_items.result ≡ Some c.in_ok-n.n = search rules in
    kept_given _ _ _ f m w _ _ _ (c.keep_items.ensures _ (c.build.ensures _ (left_entries _ _ _ f m w))) _ n _ _ _ c.assemble.ensures
