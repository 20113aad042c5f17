use Rattle.search_levels.specs.Inner.Memory.{nothing}
use Rattle.search_levels.proofs.Kept.{recalls_end}
use Rattle.search_levels.proofs.memory.kept_end.Goals as goal

pub returns-then-memory-at : goal.returns-then-memory-at
returns-then-memory-at c = nothing

pub returns-then-front-from : goal.returns-then-front-from
returns-then-front-from c = nothing

pub returns-then-end-eq0 : goal.returns-then-end-eq0
returns-then-end-eq0 c = nothing

pub returns : goal.returns
returns c = recalls_end _ _ _ c.from-front.ensures c.if-front-from.false c.from.ensures c.from-2.ensures c.from-3.ensures c.from-4.ensures c.if-end-eq0.false
