use Rattle.std.proofs.Common.{arith}
use Rattle.tree_edit.proofs.Planning.{parts, block_inside, plan_short, index_few, first_splits, first_inside, last_splits, last_inside, new_fits, rewrites, plan_room, length_small, length_is, plan_too_short, index_too_short, both_put}
use Rattle.tree_edit.proofs.edit.rewrite.Goals as goal
use Rattle.tree_edit.proofs.edit.rewrite.Goals.{then-plan-size-via-then-plan-size, then-plan-size-via-else-plan-size+then-plan_index-length}

pub overflow_add-stop : goal.overflow_add-stop
overflow_add-stop c =
    omega (arith, plan_short c.requires.2.6)

pub entry_from-last-requires : goal.entry_from-last-requires
entry_from-last-requires c =
    first_inside c.requires.2.6 (c.entry_from-first.ensures _ _ (first_splits c.requires.2.6))

pub write_index-end-requires : goal.write_index-end-requires
write_index-end-requires c =
    let first = c.entry_from-first.ensures _ _ (first_splits c.requires.2.6) in
    let last = c.entry_from-last.ensures _ _ (last_splits c.requires.2.6 first) in
    (new_fits c.requires.2.6 first last c.requires.0 c.requires.1, omega (arith, first_inside c.requires.2.6 first, index_few c.requires.2.6), (c.requires.2.2, c.requires.2.5, c.requires.2.6.there))

pub overflow_sub-length : goal.overflow_sub-length
overflow_sub-length c =
    let first = c.entry_from-first.ensures _ _ (first_splits c.requires.2.6) in
    let last = c.entry_from-last.ensures _ _ (last_splits c.requires.2.6 first) in
    last_inside c.requires.2.6 first last

pub overflow_add-length : goal.overflow_add-length
overflow_add-length c =
    let first = c.entry_from-first.ensures _ _ (first_splits c.requires.2.6) in
    let last = c.entry_from-last.ensures _ _ (last_splits c.requires.2.6 first) in
    let end = (c.write_index-end.ensures c.requires.2.2 c.requires.2.5 c.requires.2.6.there).0 in
    omega (arith, length_small c.requires.2.6 first last c.requires.0 c.requires.1 end)

pub returns-then-plan-size : goal.returns-then-plan-size
returns-then-plan-size c =
    λ path kind l t a u w.
    let first = c.entry_from-first.ensures _ _ (first_splits w) in
    let last = c.entry_from-last.ensures _ _ (last_splits w first) in
    let end = (c.write_index-end.ensures l u w.there).0 in
    elim c.then-plan-size.branch [
      | then-plan-size-via-then-plan-size v ↦ plan_too_short w first last c.requires.0 c.requires.1 end c.args.plan.now c.args.plan_index.now v.if-plan-size.true
      | then-plan-size-via-else-plan-size+then-plan_index-length v ↦ index_too_short w first last c.requires.0 c.requires.1 end c.args.plan.now c.args.plan_index.now v.if-plan-size.false v.if-plan_index-length.true
    ]

pub put_plan-requires : goal.put_plan-requires
put_plan-requires c =
    let first = c.entry_from-first.ensures _ _ (first_splits c.requires.2.6) in
    let last = c.entry_from-last.ensures _ _ (last_splits c.requires.2.6 first) in
    (omega arith, block_inside c.requires.2.6, plan_room c.requires.2.6 first last c.requires.0 c.requires.1 c.args.plan.now c.if-plan-size.false)

pub put_index-requires : goal.put_index-requires
put_index-requires c =
    let first = c.entry_from-first.ensures _ _ (first_splits c.requires.2.6) in
    let last = c.entry_from-last.ensures _ _ (last_splits c.requires.2.6 first) in
    let end = (c.write_index-end.ensures c.requires.2.2 c.requires.2.5 c.requires.2.6.there).0 in (
      _,
      c.requires.2.2,
      c.requires.2.4,
      c.requires.2.5,
      (parts c.requires.2.6).front,
      (parts c.requires.2.6).back,
      rewrites c.requires.2.6 first last c.requires.0 c.requires.1,
      omega (arith, length_is c.requires.2.6 first last c.requires.0 c.requires.1 end, c.if-plan_index-length.false),
    )

pub returns : goal.returns
returns c =
    λ path kind l t a u w.
    let first = c.entry_from-first.ensures _ _ (first_splits w) in
    let last = c.entry_from-last.ensures _ _ (last_splits w first) in
    let end = (c.write_index-end.ensures l u w.there).0 in
    both_put w first last c.requires.0 c.requires.1 end c.args.plan.now c.args.plan_index.now c.if-plan-size.false c.if-plan_index-length.false c.put_plan.ensures (c.put_index.ensures _ l a u _ _ (rewrites w first last c.requires.0 c.requires.1) (omega (arith, length_is w first last c.requires.0 c.requires.1 end, c.if-plan_index-length.false)))
