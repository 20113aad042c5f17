use Rattle.run_measure.proofs.Counts.{all_done, all_next, all_fits}
use borrow.Author.Rules.{rules}
use native.Mathlib.Omega.{arith}
use Rattle.run_measure.proofs.count.count_all.Goals as goal

pub count_clause-requires : goal.count_clause-requires
count_clause-requires c = let w = all_fits _ _ _ c.loop-p.invariant.2 c.loop-p-test.true c.field_end-e.ensures.is in (omega arith, c.field_end-e.ensures.is, w.0, c.requires.1, c.loop-p.invariant.3)

pub loop-p-preserved : goal.loop-p-preserved
loop-p-preserved c = (search rules, search rules, (all_fits _ _ _ c.loop-p.invariant.2 c.loop-p-test.true c.field_end-e.ensures.is).1, c.count_clause.ensures.low, all_next _ _ _ _ _ c.loop-p.invariant.4 c.loop-p-test.true c.field_end-e.ensures.is c.count_clause.ensures.is)

pub returns : goal.returns
returns c = all_done _ _ _ _ _ c.loop-p.invariant.4 c.loop-p-test.false
