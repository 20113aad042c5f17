use Prim.Native.Nat.{◌≤◌}
use mathlib.Core.Path.{refl}
use mathlib.Core.List.{[]}
use native.Mathlib.Omega.{arith}
use lib.ListN.{length}
use Rattle.std.proofs.lemmas.List.{length-take}
use Rattle.std.proofs.lemmas.Result.{err_from_is_err_and}
use Rattle.tree_reader.proofs.Lookup.{zeros}
use Rattle.score_tree.specs.LoadTable.{figure_of}
use Rattle.score_tree.proofs.Asked.{ok_some, err_none}
use Rattle.score_join.proofs.Answering.{parts_held, held_outside, held_short, held_fits, held_put}
use Rattle.score_join.proofs.join.join_held.Goals as goal
use Rattle.score_join.proofs.join.join_held.Goals.{In_ok-n}

-- What was put is within the row that it was put into.
within : (c : In_ok-n) → c.in_ok-n.n ≤ length c.join_loads.new.joined
within c =
    let u = c.join_loads.ensures c.requires.1.0 (figure_of c.requires.1.1) (parts_held _ c.args.indexes.now c.requires.1.0 c.requires.1.1 refl (λ i. omega (arith, c.type_inv.source i)) (λ i. omega (arith, c.type_inv.target i)) (λ i. omega (arith, c.type_inv.body i)) c.requires.0 c.requires.1.2 c.requires.1.3 c.requires.1.4 c.build_items.ensures) in
    let k = held_fits c.requires.1.0 c.requires.1.1 [] _ _ _ u _ (ok_some _ _ c.ok_or.ensures.value c.in_ok-n.was) in
    omega (arith, k, c.join_loads.auto.joined)

pub build_items-requires : goal.build_items-requires
build_items-requires c = (let b = c.requires.1.2.short in omega (arith, b), refl, zeros 8224)

pub join_loads-requires : goal.join_loads-requires
join_loads-requires c =
    (refl, (c.requires.1.0, figure_of c.requires.1.1, parts_held _ c.args.indexes.now c.requires.1.0 c.requires.1.1 refl (λ i. omega (arith, c.type_inv.source i)) (λ i. omega (arith, c.type_inv.target i)) (λ i. omega (arith, c.type_inv.body i)) c.requires.0 c.requires.1.2 c.requires.1.3 c.requires.1.4 c.build_items.ensures))

pub returns-in_err-n : goal.returns-in_err-n
returns-in_err-n c = λ f w z n k.
    let e = err_from_is_err_and c.from_residual.result c.from_residual.ensures.1 in
    let u = c.join_loads.ensures f (figure_of w) (parts_held _ c.args.indexes.now f w refl (λ i. omega (arith, c.type_inv.source i)) (λ i. omega (arith, c.type_inv.target i)) (λ i. omega (arith, c.type_inv.body i)) c.requires.0 z n k c.build_items.ensures) in
    let o = err_none _ _ c.ok_or.ensures.value c.in_err-n.was in
    rw (e.1, e.2, o.1) (held_outside f w _ _ _ _ u o.0)

pub returns-then-output-n : goal.returns-then-output-n
returns-then-output-n c = λ f w z n k.
    let u = c.join_loads.ensures f (figure_of w) (parts_held _ c.args.indexes.now f w refl (λ i. omega (arith, c.type_inv.source i)) (λ i. omega (arith, c.type_inv.target i)) (λ i. omega (arith, c.type_inv.body i)) c.requires.0 z n k c.build_items.ensures) in
    held_short f w _ _ _ _ u _ (ok_some _ _ c.ok_or.ensures.value c.in_ok-n.was) c.if-output-n.true

pub slice_bounds-joined-end : goal.slice_bounds-joined-end
slice_bounds-joined-end c = within (goal.at.slice_bounds-joined-end c).In_ok-n

pub slice_bounds-copy_from_slice-end-3 : goal.slice_bounds-copy_from_slice-end-3
slice_bounds-copy_from_slice-end-3 c =
    let k = within (goal.at.slice_bounds-copy_from_slice-end-3 c).In_ok-n in
    omega (arith, k, length-take c.in_ok-n.n c.join_loads.new.joined)

pub copy_from_slice-requires : goal.copy_from_slice-requires
copy_from_slice-requires c =
    let k = within (goal.at.copy_from_slice-requires c).In_ok-n in
    omega (arith, k, length-take c.in_ok-n.n c.join_loads.new.joined, length-take c.in_ok-n.n c.args.output.now)

pub returns : goal.returns
returns c = λ f w z n k.
    let u = c.join_loads.ensures f (figure_of w) (parts_held _ c.args.indexes.now f w refl (λ i. omega (arith, c.type_inv.source i)) (λ i. omega (arith, c.type_inv.target i)) (λ i. omega (arith, c.type_inv.body i)) c.requires.0 z n k c.build_items.ensures) in
    rw c.copy_from_slice.ensures.after (held_put f w _ _ _ _ u _ (ok_some _ _ c.ok_or.ensures.value c.in_ok-n.was) c.if-output-n.false)
