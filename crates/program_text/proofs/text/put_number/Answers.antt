use native.Mathlib.Omega.{arith}
use Rattle.program_text.proofs.Putting.{puts_marked}
use Rattle.program_text.proofs.text.put_number.Goals as goal

pub returns : goal.returns
returns c = (
  puts_marked _ _ _ _ _ _ _ _ c.put_decimal-end.ensures.0 c.put.ensures,
  omega (arith, c.put_decimal-end.ensures.1, c.put.ensures.end),
)
