use mathlib.Core.Path.{refl}
use native.Mathlib.Omega.{arith}
use Rattle.format_translation.proofs.Items.{numbered_short, numbered_out, numbered_result}
use Rattle.format_translation.proofs.body.numbered_clause_whole.Goals as goal

pub returns-then-n-lt3 : goal.returns-then-n-lt3
returns-then-n-lt3 c = numbered_short _ _ _ _ c.requires.1 refl c.if-n-lt3.true

pub returns-then-s-p-ge-KINDS : goal.returns-then-s-p-ge-KINDS
returns-then-s-p-ge-KINDS c = numbered_out _ _ _ _ c.requires.1 refl c.if-n-lt3.false c.if-s-p-ge-KINDS.true

pub returns : goal.returns
returns c = numbered_result _ _ _ _ c.requires.1 refl c.if-n-lt3.false c.if-s-p-ge-KINDS.false _ refl (λ i. omega (arith, c.type_inv.s i))
