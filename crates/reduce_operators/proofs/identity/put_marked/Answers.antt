use native.Mathlib.Omega.{arith}
use Rattle.reduce_merge.proofs.Writing.{writing_full, writing_room, writing_next, writing_done}
use Rattle.reduce_operators.proofs.SameItem.{kinding_turn, kinding_end, marked_at}
use Rattle.reduce_operators.proofs.identity.put_marked.Goals as goal

pub returns-in_err-n : goal.returns-in_err-n
returns-in_err-n c = λ l e.
    rw c.from_residual.ensures
    (writing_full _ _ _ _ _ _ (c.loop-k.invariant.writing l e) _ _ (kinding_turn l _ c.loop-k-test.true) _ _ (c.put_kind.ensures l (marked_at c.args.marked.now l _ _ e c.loop-k-test.true c.from.ensures)) c.in_err-n.was)

pub loop-k-preserved : goal.loop-k-preserved
loop-k-preserved c = record {
  writing = λ l e.
      writing_next _ _ _ _ _ _ (c.loop-k.invariant.writing l e) _ _ (kinding_turn l _ c.loop-k-test.true) _ _ (c.put_kind.ensures l (marked_at c.args.marked.now l _ _ e c.loop-k-test.true c.from.ensures))
      _ c.in_ok-n.was c.put_kind.auto.out;
  room =
      let l = c.requires.1.0 in
      let e = c.requires.1.1 in
      writing_room _ _ _ _ _ _ (c.loop-k.invariant.writing l e) _ _ (kinding_turn l _ c.loop-k-test.true) _ _ (c.put_kind.ensures l (marked_at c.args.marked.now l _ _ e c.loop-k-test.true c.from.ensures))
      _ c.in_ok-n.was c.put_kind.auto.out;
  long = omega (arith, c.put_kind.auto.out, c.loop-k.invariant.long);
  inside = omega arith;
}

pub returns : goal.returns
returns c = λ l e. writing_done _ _ _ _ _ _ (c.loop-k.invariant.writing l e) (kinding_end l _ c.loop-k-test.false) c.loop-k.invariant.room
