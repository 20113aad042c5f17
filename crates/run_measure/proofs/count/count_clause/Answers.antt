use Prim.Native.Nat.{◌+◌}
use native.Mathlib.Omega.{arith}
use Rattle.run_measure.proofs.Counts.{clause_low, clause_below}
use Rattle.run_measure.proofs.count.count_clause.Goals as goal

pub returns-then-place-eq0-clause-low : goal.returns-then-place-eq0-clause-low
returns-then-place-eq0-clause-low c = clause_low _ _ _ _ c.requires.1 c.requires.4

pub count_code-requires : goal.count_code-requires
count_code-requires c = (c.requires.2, c.requires.3, omega arith, omega arith, clause_below _ _ _ _ c.requires.1 c.requires.4 (c.args.p + 5) (omega arith))

pub count_code-requires-in-41 : goal.count_code-requires-in-41
count_code-requires-in-41 c = (c.requires.2, c.requires.3, omega arith, omega arith, clause_below _ _ _ _ c.requires.1 c.requires.4 (c.args.p + 6) (omega arith))

pub returns-in_default-clause-low : goal.returns-in_default-clause-low
returns-in_default-clause-low c = clause_low _ _ _ _ c.requires.1 c.requires.4
