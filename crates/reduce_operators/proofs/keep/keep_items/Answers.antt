use native.Mathlib.Omega.{arith}
use Rattle.reduce_merge.proofs.Writing.{writing_full, writing_next, writing_done}
use Rattle.reduce_operators.proofs.Keeping.{keeping_start, item_here, item_inside, items_next, keeping_turn, walk_done}
use Rattle.reduce_operators.proofs.keep.keep_items.Goals as goal

pub loop-p-init : goal.loop-p-init
loop-p-init c = keeping_start _ _ _ _ c.requires.0

pub stays-requires : goal.stays-requires
stays-requires c = (item_here _ _ c.loop-p.invariant.whole c.loop-p-test.true, c.loop-p-test.true, c.requires.1)

pub put_if-requires : goal.put_if-requires
put_if-requires c = (item_inside _ _ c.loop-p.invariant.whole c.loop-p-test.true _ c.field_end-e.ensures.is, c.loop-p.invariant.room)

pub returns-in_err-n : goal.returns-in_err-n
returns-in_err-n c = λ l z.
    rw c.from_residual.ensures
    (writing_full _ _ _ _ _ _ (c.loop-p.invariant.writing l z) _ _ (keeping_turn _ _ c.loop-p.invariant.whole c.loop-p-test.true l _ c.field_end-e.ensures.is _ (c.stays.ensures l z)) _ _ c.put_if.ensures c.in_err-n.was)

pub loop-p-preserved : goal.loop-p-preserved
loop-p-preserved c = record {
  writing = λ l z.
      writing_next _ _ _ _ _ _ (c.loop-p.invariant.writing l z) _ _ (keeping_turn _ _ c.loop-p.invariant.whole c.loop-p-test.true l _ c.field_end-e.ensures.is _ (c.stays.ensures l z)) _ _ c.put_if.ensures
      _ c.in_ok-n.was c.put_if.auto.out;
  whole = items_next _ _ c.loop-p.invariant.whole c.loop-p-test.true _ c.field_end-e.ensures.is;
  room = omega (arith, (c.put_if.ensures.done _ c.in_ok-n.was).fits, c.put_if.auto.out);
  long = omega (arith, c.put_if.auto.out, c.loop-p.invariant.long);
}

pub returns : goal.returns
returns c = λ l z. writing_done _ _ _ _ _ _ (c.loop-p.invariant.writing l z) (walk_done _ _ _ c.loop-p-test.false) c.loop-p.invariant.room
