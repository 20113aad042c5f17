use Rattle.format_translation.proofs.IndexedItems.{known_first, known_in, known_out}
use Rattle.format_translation.proofs.index.known_at.Goals as goal

pub returns-then-byte_at-leading_tag : goal.returns-then-byte_at-leading_tag
returns-then-byte_at-leading_tag c = known_first _ _ _ _ _ c.byte_at.ensures c.if-byte_at-leading_tag.true

pub returns-then-index-key : goal.returns-then-index-key
returns-then-index-key c = known_out _ _ _ _ _ c.byte_at.ensures c.if-byte_at-leading_tag.false _ c.key_at-key.ensures.0 c.if-index-key.true

pub returns : goal.returns
returns c = known_in _ _ _ _ _ c.byte_at.ensures c.if-byte_at-leading_tag.false _ c.key_at-key.ensures.0
