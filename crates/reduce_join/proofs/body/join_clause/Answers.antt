use native.Mathlib.Omega.{arith}
use mathlib.Core.Path.{refl}
use Rattle.reduce_join.proofs.Turns.{pair_is, clause_short, clause_full, clause_in, clause_to, run_asks, run_stores, number_below}
use Rattle.reduce_join.proofs.body.join_clause.Goals as goal

pub returns-then-out-start : goal.returns-then-out-start
returns-then-out-start c = λ f g a. clause_short c.args.table.now c.args.second_body.now _ _ _ _ _ f g a _ (pair_is _ _ _ c.from.ensures) _ c.head_length.ensures.0 _ _ c.if-out-start.true

pub put_run-requires : goal.put_run-requires
put_run-requires c = (omega (arith, c.if-out-start.false), (_, _, _, run_asks c.args.table.now c.args.second_body.now _ _ _ _ _ _ c.head_length-2.ensures.0 _ _ c.requires.2.2))

pub returns-in_err-m : goal.returns-in_err-m
returns-in_err-m c = λ f g a. rw c.from_residual.ensures (clause_full c.args.table.now c.args.second_body.now _ _ _ _ _ f g a _ (pair_is _ _ _ c.from.ensures) _ c.head_length.ensures.0 _ _ _ _ (run_stores c.args.table.now c.args.second_body.now _ _ _ _ _ _ c.head_length-2.ensures.0 f g a _ _ _ _ c.put_run.ensures) c.in_err-m.was)

pub overflow_sub-m : goal.overflow_sub-m
overflow_sub-m c = let k = clause_in c.args.table.now c.args.second_body.now _ _ _ _ _ _ _ c.requires.2.2 _ (pair_is _ _ _ c.from.ensures) _ c.head_length.ensures.0 _ _ _ _ (run_stores c.args.table.now c.args.second_body.now _ _ _ _ _ _ c.head_length-2.ensures.0 _ _ c.requires.2.2 _ _ _ _ c.put_run.ensures) _ c.in_ok-m.was in omega (arith, k.0)

pub overflow_sub-m-2 : goal.overflow_sub-m-2
overflow_sub-m-2 c = let k = clause_in c.args.table.now c.args.second_body.now _ _ _ _ _ _ _ c.requires.2.2 _ (pair_is _ _ _ c.from.ensures) _ c.head_length.ensures.0 _ _ _ _ (run_stores c.args.table.now c.args.second_body.now _ _ _ _ _ _ c.head_length-2.ensures.0 _ _ c.requires.2.2 _ _ _ _ c.put_run.ensures) _ c.in_ok-m.was in omega (arith, k.0, k.2)

pub put_head-requires : goal.put_head-requires
put_head-requires c = let k = clause_in c.args.table.now c.args.second_body.now _ _ _ _ _ _ _ c.requires.2.2 _ (pair_is _ _ _ c.from.ensures) _ c.head_length.ensures.0 _ _ _ _ (run_stores c.args.table.now c.args.second_body.now _ _ _ _ _ _ c.head_length-2.ensures.0 _ _ c.requires.2.2 _ _ _ _ c.put_run.ensures) _ c.in_ok-m.was in (number_below _ _ _ _ _ _ _ _ _ c.requires.2.2 _ c.from.ensures, omega (arith, k.0, k.1, c.requires.1), omega (arith, k.0, k.1))

pub returns : goal.returns
returns c = λ f g a. clause_to c.args.table.now c.args.second_body.now _ _ _ _ _ f g a _ (pair_is _ _ _ c.from.ensures) _ c.head_length.ensures.0 _ _ _ _ (run_stores c.args.table.now c.args.second_body.now _ _ _ _ _ _ c.head_length-2.ensures.0 f g a _ _ _ _ c.put_run.ensures) (omega (arith, c.if-out-start.false)) _ c.in_ok-m.was _ _ _ _ _ c.byte_at-result.ensures c.byte_at-name.ensures refl c.put_head.ensures
