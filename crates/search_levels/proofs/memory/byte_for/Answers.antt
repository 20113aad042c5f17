use Rattle.search_levels.proofs.Kept.{byte_free, byte_past, byte_kept}
use Rattle.search_levels.proofs.memory.byte_for.Goals as goal

pub returns-then-n-at : goal.returns-then-n-at
returns-then-n-at c = byte_free _ _ _ _ _ _ c.if-n-at.true c.byte_at.ensures

pub returns-then-memory-at : goal.returns-then-memory-at
returns-then-memory-at c = byte_past _ _ _ _ _ c.if-n-at.false c.if-memory-at.true

pub returns : goal.returns
returns c = byte_kept _ _ _ _ _ c.if-n-at.false c.if-memory-at.false
