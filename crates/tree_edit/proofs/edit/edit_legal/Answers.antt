use Rattle.std.proofs.Common.{rules, refl, ◌≡◌, Err}
use Rattle.format_card.specs.Inner.Sets.{in_set}
use Rattle.tree_block.proofs.Answers.{entry_there}
use Rattle.tree_edit.proofs.Planning.{path_refused, path_reaches, path_given}
use Rattle.tree_edit.proofs.edit.edit_legal.Goals as goal

pub descend-requires : goal.descend-requires
descend-requires c = (c.requires.0, c.requires.1, c.requires.2.along)

pub returns-in_err-at : goal.returns-in_err-at
returns-in_err-at c = λ l t sees w y.
    let e : c.from_residual.result ≡ Err c.in_err-at.field-0.0 = search rules in
    rw e (path_refused w sees _ c.args.block.now c.args.plan.now c.args.plan_index.now (c.in_err-at.ensures l t sees w.along y))

pub spot_of-old-requires : goal.spot_of-old-requires
spot_of-old-requires c = entry_there (c.in_ok-at.ensures c.requires.0 c.requires.1 (in_set c.args.seen) c.requires.2.along (λ k q. refl)).2

pub replace_block-requires : goal.replace_block-requires
replace_block-requires c =
    let v = c.in_ok-at.ensures c.requires.0 c.requires.1 (in_set c.args.seen) c.requires.2.along (λ k q. refl) in
    (_, _, c.requires.0, c.requires.1, _, path_reaches c.requires.2 _ _ v.1 v.2 c.spot_of-old.ensures.0 c.spot_of-old.ensures.1 c.spot_of-old.ensures.2)

pub returns : goal.returns
returns c = λ l t sees w y.
    let v = c.in_ok-at.ensures l t sees w.along y in
    let o = path_reaches w sees _ v.1 v.2 c.spot_of-old.ensures.0 c.spot_of-old.ensures.1 c.spot_of-old.ensures.2 in
    path_given w sees _ v.1 v.2 c.spot_of-old.ensures.0 c.spot_of-old.ensures.1 c.spot_of-old.ensures.2 c.args.block.now c.args.plan.now c.args.plan_index.now _ (c.replace_block.ensures _ _ l t _ o)
