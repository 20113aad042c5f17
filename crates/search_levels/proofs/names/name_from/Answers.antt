use Rattle.search_levels.proofs.Naming.{unnamed_start, unnamed_next, unnamed_all, named_there}
use Rattle.search_levels.proofs.names.name_from.Goals as goal

pub loop-name-init : goal.loop-name-init
loop-name-init c = unnamed_start _ _ _

pub returns-then-index_at-ne0 : goal.returns-then-index_at-ne0
returns-then-index_at-ne0 c = (c.loop-name.auto.name, (c.loop-name-test.true, named_there _ _ _ c.index_at.ensures.0 c.production_key.ensures.0 c.if-index_at-ne0.true), c.loop-name.invariant)

pub loop-name-preserved : goal.loop-name-preserved
loop-name-preserved c = unnamed_next _ _ _ _ c.index_at.ensures.0 c.production_key.ensures.0 c.if-index_at-ne0.false c.loop-name.invariant

pub returns : goal.returns
returns c = (c.requires.1, tt, unnamed_all _ _ _ _ c.loop-name-test.false c.loop-name.invariant)
