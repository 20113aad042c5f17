use mathlib.Core.Path.{sym, ◌∙◌}
use borrow.Author.Rules.{rules}
use Rattle.format_card.proofs.Cards.{reads_refused, card_broken, card_long, card_held, reads_as}
use Rattle.format_card.proofs.read.read_card.Goals as goal

pub returns-then-not-is_card : goal.returns-then-not-is_card
returns-then-not-is_card c = reads_refused (card_broken _ (sym c.is_card.ensures ∙ c.if-not-is_card.true))

pub slice_bounds-contents-count : goal.slice_bounds-contents-count
slice_bounds-contents-count c = card_long _ (sym c.is_card.ensures ∙ c.if-not-is_card.false)

pub slice_bounds-contents-start : goal.slice_bounds-contents-start
slice_bounds-contents-start c = let long = card_long _ (sym c.is_card.ensures ∙ c.if-not-is_card.false) in search rules

pub returns : goal.returns
returns c = reads_as (card_held _ (sym c.is_card.ensures ∙ c.if-not-is_card.false)) c.contents.ensures
