use mathlib.Core.Path.{refl}
use native.Mathlib.Omega.{arith}
use Rattle.listing.proofs.Lines.{puts_clause, code_length}
use Rattle.listing.proofs.clauses.put_clause.Goals as goal

pub returns : goal.returns
returns c = (
  puts_clause _ _ _ _ _ _ _ _ _ _ _ _ _ _ c.from.ensures c.from-2.ensures refl
      c.put_number-name.ensures.0 c.put_number-code.ensures.0 c.put_hex-end.ensures.0 c.put.ensures,
  omega (arith, c.put_number-name.ensures.1, c.put_number-code.ensures.1, c.put_hex-end.ensures.1, c.put.ensures.end, code_length c.args.clause.now),
)
