use mathlib.Core.Path.{refl, ◌∙◌}
use native.Mathlib.Omega.{arith}
use Rattle.format_fields.proofs.Places.{every_here}
use Rattle.format_language.specs.Inner.Entries.{entry_whole}
use Rattle.tree_reader.proofs.Members.{entries_whole}
use Rattle.reduce_merge.proofs.Writing.{writing_start, writing_full, writing_next, writing_done}
use Rattle.reduce_operators.specs.Inner.Pieces.{EntryAsks}
use Rattle.reduce_operators.proofs.Keeping.{walk_next, walk_done}
use Rattle.reduce_operators.proofs.walk.put_entries.Goals as goal

pub loop-p-init : goal.loop-p-init
loop-p-init g c = record { whole = entries_whole _ c.requires.entries; room = c.requires.room; long = refl; rest = λ piece puts. writing_start _ _ _ _ refl }

pub put-requires : goal.put-requires
put-requires g c =
    let asks : EntryAsks c.args.a.now c.loop-p.p c.field_end-e.result c.loop-p.out c.loop-p.n
    = record { whole = (every_here (entry_whole c.args.a.now) _ _ c.loop-p.invariant.whole c.loop-p-test.true).0; ends = c.field_end-e.ensures; here = c.loop-p-test.true; room = c.loop-p.invariant.room } in
    c.requires.may _ _ _ _ _ asks

pub returns-in_err-n : goal.returns-in_err-n
returns-in_err-n g c = λ piece puts.
    let asks : EntryAsks c.args.a.now c.loop-p.p c.field_end-e.result c.loop-p.out c.loop-p.n
    = record { whole = (every_here (entry_whole c.args.a.now) _ _ c.loop-p.invariant.whole c.loop-p-test.true).0; ends = c.field_end-e.ensures; here = c.loop-p-test.true; room = c.loop-p.invariant.room } in
    rw c.from_residual.ensures (writing_full _ _ _ _ _ _ (c.loop-p.invariant.rest piece puts) _ _ (walk_next (piece _) _ _ c.loop-p-test.true _ c.field_end-e.ensures.is) _ _ (puts.stores _ _ _ _ _ _ _ asks c.put.ensures) c.in_err-n.was)

pub loop-p-preserved : goal.loop-p-preserved
loop-p-preserved g c =
    let asks : EntryAsks c.args.a.now c.loop-p.p c.field_end-e.result c.loop-p.out c.loop-p.n
    = record { whole = (every_here (entry_whole c.args.a.now) _ _ c.loop-p.invariant.whole c.loop-p-test.true).0; ends = c.field_end-e.ensures; here = c.loop-p-test.true; room = c.loop-p.invariant.room } in
    record {
      whole = rw c.field_end-e.ensures.is (every_here (entry_whole c.args.a.now) _ _ c.loop-p.invariant.whole c.loop-p-test.true).1;
      room = omega (arith, ((c.requires.puts.1.stores _ _ _ _ _ _ _ asks c.put.ensures).done _ c.in_ok-n.was).fits, c.put.auto.arg5);
      long = c.put.auto.arg5 ∙ c.loop-p.invariant.long;
      rest = λ piece puts. writing_next _ _ _ _ _ _ (c.loop-p.invariant.rest piece puts) _ _ (walk_next (piece _) _ _ c.loop-p-test.true _ c.field_end-e.ensures.is) _ _ (puts.stores _ _ _ _ _ _ _ asks c.put.ensures) _ c.in_ok-n.was c.put.auto.arg5;
    }

pub returns : goal.returns
returns g c = λ piece puts. writing_done _ _ _ _ _ _ (c.loop-p.invariant.rest piece puts) (walk_done (piece _) _ _ c.loop-p-test.false) c.loop-p.invariant.room
