use mathlib.Core.Path.{sym, ◌∙◌}
use Rattle.format_pack.proofs.Passes.{ordered_whole, whole_unordered, whole_languages, whole_bodies, whole_term_lem}
use Rattle.format_pack.proofs.whole.parts_whole.Goals as goal

pub returns-then-not-parts_ordered : goal.returns-then-not-parts_ordered
returns-then-not-parts_ordered c = whole_unordered _ _ c.parts_ordered.ensures (c.if-not-parts_ordered.true)

pub count_tag-requires : goal.count_tag-requires
count_tag-requires c = ordered_whole _ (sym c.parts_ordered.ensures ∙ c.if-not-parts_ordered.false)

pub returns-then-count_tag-gt-PARTS : goal.returns-then-count_tag-gt-PARTS
returns-then-count_tag-gt-PARTS c = whole_languages _ _ c.parts_ordered.ensures (c.if-not-parts_ordered.false) _ c.count_tag.ensures c.if-count_tag-gt-PARTS.true

pub count_tag-requires-2 : goal.count_tag-requires-2
count_tag-requires-2 c = ordered_whole _ (sym c.parts_ordered.ensures ∙ c.if-not-parts_ordered.false)

pub returns-then-count_tag-gt-PARTS-2 : goal.returns-then-count_tag-gt-PARTS-2
returns-then-count_tag-gt-PARTS-2 c = whole_bodies _ _ c.parts_ordered.ensures (c.if-not-parts_ordered.false) _ c.count_tag.ensures c.if-count_tag-gt-PARTS.false _ c.count_tag-2.ensures c.if-count_tag-gt-PARTS-2.true

pub count_tag-requires-3 : goal.count_tag-requires-3
count_tag-requires-3 c = ordered_whole _ (sym c.parts_ordered.ensures ∙ c.if-not-parts_ordered.false)

pub returns : goal.returns
returns c = whole_term_lem _ _ c.parts_ordered.ensures (c.if-not-parts_ordered.false) _ c.count_tag.ensures c.if-count_tag-gt-PARTS.false _ c.count_tag-2.ensures c.if-count_tag-gt-PARTS-2.false _ c.count_tag-3.ensures
