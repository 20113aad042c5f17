use Rattle.format_card.proofs.Refusals.{lowest_second, lowest_first}
use Rattle.format_card.proofs.lowest.lowest.Goals as goal

pub returns-then-from : goal.returns-then-from
returns-then-from c = rw (c.in-Err-Err.is-0, c.in-Err-Err.is-1) (lowest_second _ _ c.from.ensures c.from-in-Err-Err.ensures c.if-from.true)

pub returns-else-from : goal.returns-else-from
returns-else-from c = rw (c.in-Err-Err.is-0, c.in-Err-Err.is-1) (lowest_first _ _ c.from.ensures c.from-in-Err-Err.ensures c.if-from.false)
