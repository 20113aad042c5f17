use mathlib.Core.Path.{refl}
use Rattle.format_translation.proofs.Items.{mapping_size, mapping_source, mapping_target}
use Rattle.format_translation.proofs.body.mapping_whole.Goals as goal

pub returns-then-n-ne2 : goal.returns-then-n-ne2
returns-then-n-ne2 c = mapping_size _ _ _ _ c.requires.1 refl c.if-n-ne2.true

pub returns-then-s-p-ge-KINDS : goal.returns-then-s-p-ge-KINDS
returns-then-s-p-ge-KINDS c = mapping_source _ _ _ _ c.requires.1 refl c.if-n-ne2.false c.if-s-p-ge-KINDS.true

pub returns : goal.returns
returns c = mapping_target _ _ _ _ c.requires.1 refl c.if-n-ne2.false c.if-s-p-ge-KINDS.false _ refl
