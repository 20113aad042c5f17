use native.Mathlib.Omega.{arith}
use Rattle.run_table.proofs.Hinting.{hinting_next}
use borrow.Author.Rules.{rules}
use Rattle.run_table.proofs.hints.put_hints.Goals as goal

pub loop-p-preserved : goal.loop-p-preserved
loop-p-preserved c = (omega (arith, c.put_hint-next.ensures.0, c.field_end-p.ensures.past), search rules, hinting_next _ _ _ _ _ _ c.loop-p-test.true c.field_end-p.ensures.is c.put_hint-next.ensures.1 c.loop-p.invariant.2)
