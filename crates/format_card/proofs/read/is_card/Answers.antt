use Rattle.format_card.proofs.Cards.{card_short, card_tag, card_size}
use Rattle.format_card.proofs.read.is_card.Goals as goal

pub returns-then-card-lt3 : goal.returns-then-card-lt3
returns-then-card-lt3 c = card_short _ c.if-card-lt3.true

pub returns-then-card-ne-CARD : goal.returns-then-card-ne-CARD
returns-then-card-ne-CARD c = card_tag _ c.if-card-lt3.false c.if-card-ne-CARD.true

pub returns : goal.returns
returns c = card_size _ c.if-card-lt3.false c.if-card-ne-CARD.false c.pair_in.ensures.0
