use Rattle.search_levels.proofs.Kept.{kept_free, kept_past, kept_there}
use Rattle.search_levels.proofs.memory.keep.Goals as goal

pub returns-then-n-at : goal.returns-then-n-at
returns-then-n-at c = kept_free _ _ _ _ _ c.note-byte.ensures c.if-n-at.true

pub returns-then-memory-at : goal.returns-then-memory-at
returns-then-memory-at c = kept_past _ _ _ _ _ c.note-byte.ensures c.if-n-at.false c.if-memory-at.true

pub returns : goal.returns
returns c = kept_there _ _ _ _ _ c.note-byte.ensures c.if-n-at.false c.if-memory-at.false
