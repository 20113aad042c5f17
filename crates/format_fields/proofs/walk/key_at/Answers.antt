use mathlib.Core.Path.{◌∙◌}
use Rattle.format_fields.proofs.Keys.{key_first, key_second}
use borrow.Author.Rules.{rules}
use Rattle.format_fields.proofs.walk.key_at.Goals as goal

pub returns-then-byte_at-leading_tag : goal.returns-then-byte_at-leading_tag
returns-then-byte_at-leading_tag c = (key_first _ _ _ _ _ c.byte_at.ensures c.if-byte_at-leading_tag.true (c.from.ensures ∙ c.byte_at-then-byte_at-leading_tag.ensures), search rules)

pub returns : goal.returns
returns c = (key_second _ _ _ _ _ c.byte_at.ensures c.if-byte_at-leading_tag.false c.pair_at.ensures.0, search rules)
