use native.Mathlib.Omega.{arith}
use Rattle.program_text.proofs.Putting.{puts_pair}
use Rattle.program_text.proofs.text.put_pair.Goals as goal

pub returns : goal.returns
returns c = (
  puts_pair _ _ _ _ _ _ _ _ _ c.capital.ensures c.capital-2.ensures c.put-middle.ensures c.put.ensures,
  omega (arith, c.put-middle.ensures.end, c.put.ensures.end),
)
