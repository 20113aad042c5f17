use mathlib.Core.Path.{refl}
use Rattle.format_fields.proofs.Places.{some_done, some_stop, some_next}
use Rattle.format_fields.proofs.Over.{over_at_places, over_cut_off}
use Rattle.format_fields.proofs.walk.says_over.Goals as goal

pub loop-p-init : goal.loop-p-init
loop-p-init c = over_at_places _ _ _

pub returns-then-s-p-lt3 : goal.returns-then-s-p-lt3
returns-then-s-p-lt3 c = over_cut_off _ _ _ _ _ c.loop-p.invariant c.loop-p-test.true c.if-s-p-lt3.true

pub returns-then-over_at : goal.returns-then-over_at
returns-then-over_at c = some_stop _ _ _ _ c.loop-p.invariant _ c.over_at.ensures _ refl c.loop-p-test.true c.if-over_at.true

pub loop-p-preserved : goal.loop-p-preserved
loop-p-preserved c = some_next _ _ _ _ c.loop-p.invariant _ c.over_at.ensures _ c.whole_end-p.ensures.is c.loop-p-test.true c.if-over_at.false

pub returns : goal.returns
returns c = some_done _ _ _ _ c.loop-p.invariant c.loop-p-test.false
