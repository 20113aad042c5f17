use mathlib.Core.Path.{refl}
use native.Mathlib.Omega.{arith}
use Rattle.format_translation.proofs.Items.{numbered_size, numbered_source, numbered_zero, numbered_target}
use Rattle.format_translation.proofs.body.numbered_mapping_whole.Goals as goal

pub returns-then-n-ne3 : goal.returns-then-n-ne3
returns-then-n-ne3 c = numbered_size _ _ _ _ c.requires.1 refl c.if-n-ne3.true

pub returns-then-s-p-ge-KINDS : goal.returns-then-s-p-ge-KINDS
returns-then-s-p-ge-KINDS c = numbered_source _ _ _ _ c.requires.1 refl c.if-n-ne3.false c.if-s-p-ge-KINDS.true

pub returns-then-s-p-eq0 : goal.returns-then-s-p-eq0
returns-then-s-p-eq0 c = numbered_zero _ _ _ _ c.requires.1 refl c.if-n-ne3.false c.if-s-p-ge-KINDS.false c.if-s-p-eq0.true

pub returns : goal.returns
returns c = numbered_target _ _ _ _ c.requires.1 refl c.if-n-ne3.false c.if-s-p-ge-KINDS.false (λ i. omega (arith, c.type_inv.s i)) c.if-s-p-eq0.false _ refl
