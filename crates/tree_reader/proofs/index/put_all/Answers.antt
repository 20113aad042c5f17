use borrow.Author.Rules.{rules}
use mathlib.Core.Path.{refl}
use Rattle.tree_reader.proofs.Lookup.{puts_done, puts_next}
use Rattle.tree_reader.proofs.index.put_all.Goals as goal

pub loop-p-init : goal.loop-p-init
loop-p-init c = (refl, refl)

pub loop-p-preserved : goal.loop-p-preserved
loop-p-preserved c = (search rules, puts_next _ _ _ _ _ c.loop-p.invariant.1 _ _ _ _ c.put.ensures c.slot_at.ensures.0 refl c.field_end-p.ensures.is c.loop-p-test.true)

pub returns : goal.returns
returns c = puts_done _ _ _ _ _ c.loop-p.invariant.1 c.loop-p-test.false
