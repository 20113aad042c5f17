use Rattle.format_translation.proofs.Clauses.{mapped_there, mapped_none}
use Rattle.format_translation.proofs.index.mapped_by.Goals as goal

pub returns-then-next-eq0 : goal.returns-then-next-eq0
returns-then-next-eq0 c = mapped_none _ c.from.ensures c.from-2.ensures c.byte_at-next.ensures c.if-next-eq0.true

pub returns : goal.returns
returns c = mapped_there _ c.from.ensures c.from-2.ensures c.byte_at-next.ensures
