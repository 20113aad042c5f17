use native.Mathlib.Omega.{arith}
use lib.Seq.{slice}
use Rattle.format_fields.proofs.Splices.{both_then}
use Rattle.format_fields.proofs.copy.put_both.Goals as goal

pub put-requires-2 : goal.put-requires-2
put-requires-2 c = (c.requires.1.0, omega (arith, (c.put.ensures.done _ c.in_ok-m.was).fits, c.put.auto.out))

pub returns : goal.returns
returns c = both_then (slice c.args.p c.args.e c.args.s.now) (slice c.args.q c.args.d c.args.t.now) c.args.out.now _ c.args.n _ c.put.ensures _ c.in_ok-m.was _ _ c.put.auto.out c.put-2.ensures
