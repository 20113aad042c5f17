use Rattle.format_card.proofs.Cards.{going_start, going_broken, going_unordered, going_next, going_fails, going_done}
use Rattle.format_card.proofs.read.contents.Goals as goal
use Rattle.format_card.proofs.read.contents.Goals.{then-kind-least, else-kind-least}

pub loop-kind-init : goal.loop-kind-init
loop-kind-init c = going_start _

pub returns-then-kind-ge-KINDS : goal.returns-then-kind-ge-KINDS
returns-then-kind-ge-KINDS c = going_broken _ c.loop-kind.invariant c.loop-kind-test.true c.if-kind-ge-KINDS.true

pub loop-kind-preserved : goal.loop-kind-preserved
loop-kind-preserved c = elim c.if-kind-least.branch [ then-kind-least w ↦ going_unordered _ c.loop-kind.invariant c.loop-kind-test.true c.if-kind-ge-KINDS.false w.if-kind-least.true w.kinds-is w.least-is w.rising-is | else-kind-least w ↦ going_next _ c.loop-kind.invariant c.loop-kind-test.true c.if-kind-ge-KINDS.false w.if-kind-least.false w.only-kinds.ensures w.kinds-is w.least-is w.rising-is ]

pub returns-then-not-rising : goal.returns-then-not-rising
returns-then-not-rising c = going_fails _ c.loop-kind.invariant c.loop-kind-test.false c.if-not-rising.true

pub returns : goal.returns
returns c = going_done _ c.loop-kind.invariant c.loop-kind-test.false c.if-not-rising.false
