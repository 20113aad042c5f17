use native.Mathlib.Omega.{arith}
use Rattle.program_text.proofs.Decimal.{short, puts_decimal}
use Rattle.program_text.proofs.text.put_decimal.Goals as goal

pub put_bytes-requires : goal.put_bytes-requires
put_bytes-requires c = omega (arith, c.decimal-k.ensures.in_bounds.1, short _ _ c.decimal-k.ensures.len c.requires.0)

pub returns : goal.returns
returns c = (
  puts_decimal _ _ c.decimal-k.ensures.len _ _ _ _ _ c.decimal-k.ensures.digits c.put_bytes.ensures,
  omega (arith, c.decimal-k.ensures.in_bounds.1, c.put_bytes.ensures.end, short _ _ c.decimal-k.ensures.len c.requires.0),
)
