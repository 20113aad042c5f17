use mathlib.Core.Path.{refl}
use native.Mathlib.Omega.{arith}
use Rattle.listing.proofs.Lines.{lines_start, lines_next, lines_done}
use Rattle.listing.proofs.clauses.put_clauses.Goals as goal

pub loop-p-init : goal.loop-p-init
loop-p-init c = record { room = omega arith; long = refl; lines = lines_start _ _ _ (omega arith) }

pub loop-p-preserved : goal.loop-p-preserved
loop-p-preserved c = record {
  room = omega (arith, c.put_field-to.ensures.1);
  long = omega (arith, c.put_field-to.ensures.0.long);
  lines = lines_next _ _ _ _ _ _ c.loop-p.invariant.lines c.loop-p-test.true _ c.field_end-end.ensures.is _ _ c.put_field-to.ensures.0;
}

pub returns : goal.returns
returns c = lines_done _ _ _ _ _ _ c.loop-p.invariant.lines c.loop-p-test.false
