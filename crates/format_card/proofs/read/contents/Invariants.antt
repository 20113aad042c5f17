use Rattle.format_card.proofs.Cards.{Going}
use Rattle.format_card.proofs.read.contents.Given as goal

abbrev pub invariant-loop-kind : goal.invariant-loop-kind
invariant-loop-kind l = Going l.bytes l.kinds l.least l.rising l.kind-index
