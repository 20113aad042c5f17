use native.Mathlib.Omega.{arith}
use Rattle.reduce_operators.proofs.Keeping.{stays_mapping, stays_clause}
use Rattle.reduce_operators.proofs.keep.stays.Goals as goal

pub returns-then-not-is_clause : goal.returns-then-not-is_clause
returns-then-not-is_clause c = λ l z. stays_mapping c.args.body.now _ _ c.byte_at.ensures c.requires.0 _ c.is_clause.ensures l (c.if-not-is_clause.true) _ c.byte_at-then-not-is_clause.ensures _ (c.is_in.ensures l z.entries)

pub returns : goal.returns
returns c = λ l z. stays_clause c.args.body.now _ _ c.byte_at.ensures c.requires.0 _ c.is_clause.ensures l _ _ z (λ i. omega (arith, c.type_inv.body i)) (c.if-not-is_clause.false) _ c.known_at.ensures
