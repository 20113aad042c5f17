use native.Mathlib.Omega.{arith}
use Rattle.program_text.proofs.Putting.{puts_first}
use Rattle.program_text.proofs.text.put_first.Goals as goal

pub returns : goal.returns
returns c = (
  puts_first _ _ _ _ _ _ _ _ c.put_bytes-end.ensures c.put_number.ensures.0,
  omega (arith, c.put_bytes-end.ensures.end, c.put_number.ensures.1),
)
