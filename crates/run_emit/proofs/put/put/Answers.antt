use native.Mathlib.Omega.{arith}
use Rattle.run_emit.proofs.Puts.{put_part}
use Rattle.run_emit.proofs.put.put.Goals as goal

pub returns : goal.returns
returns g c = put_part _ _ _ _ (omega arith) _ c.if-output-end.false c.copy_from_slice.ensures.after
