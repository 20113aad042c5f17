use mathlib.Core.Path.{refl}
use Rattle.format_fields.proofs.Over.{over_within, over_first, over_second}
use Rattle.format_fields.proofs.walk.over_at.Goals as goal

pub returns-then-pair_in-limit : goal.returns-then-pair_in-limit
returns-then-pair_in-limit c = over_within _ _ _ 0 _ _ _ c.requires c.pair_in.ensures.0 c.if-pair_in-limit.true

pub returns-then-tag-first : goal.returns-then-tag-first
returns-then-tag-first c = over_first _ _ _ _ _ _ _ c.requires c.pair_in.ensures.0 c.if-pair_in-limit.false refl c.if-tag-first.true

pub returns : goal.returns
returns c = over_second _ _ _ _ _ _ _ c.requires c.pair_in.ensures.0 c.if-pair_in-limit.false refl c.if-tag-first.false
