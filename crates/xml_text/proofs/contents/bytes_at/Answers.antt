use Rattle.std.proofs.Common.{arith}
use Rattle.xml_text.proofs.Takes.{holds_none, holds_end, holds_name, holds_value, holds_other}
use Rattle.xml_text.proofs.contents.bytes_at.Goals as goal
use Rattle.xml_text.proofs.contents.bytes_at.Goals.{then-text-at-ne-OPEN-via-then-text-at-ne-OPEN as none, then-text-at-ne-OPEN-via-else-text-at-ne-OPEN+then-text-at-lt2 as last}

pub returns-then-text-at-ne-OPEN : goal.returns-then-text-at-ne-OPEN
returns-then-text-at-ne-OPEN c =
    elim c.then-text-at-ne-OPEN.branch [
      | none w ↦ holds_none _ _ c.requires w.if-text-at-ne-OPEN.true
      | last w ↦ holds_end _ _ c.requires w.if-text-at-ne-OPEN.false w.if-text-at-lt2.true
    ]

pub returns-in-120 : goal.returns-in-120
returns-in-120 c = holds_name _ _ c.requires c.if-text-at-ne-OPEN.false c.in-120.is

pub returns-in-116 : goal.returns-in-116
returns-in-116 c = holds_value _ _ c.requires c.if-text-at-ne-OPEN.false c.in-116.is

pub returns-in_default : goal.returns-in_default
returns-in_default c = holds_other _ _ c.requires c.if-text-at-ne-OPEN.false (λ e. omega arith) (λ e. omega arith)
