use mathlib.Core.Path.{refl}
use Rattle.tree_reader.proofs.Laws.{class_at, read_token_lem, read_past, leaf_read, none_found}
use Rattle.tree_reader.proofs.read.leaf.Goals as goal

pub token-requires : goal.token-requires
token-requires c = (c.requires.0.inside, λ h. class_at _ _ _ c.requires.0.sound c.requires.0.kind c.requires.1 c.if-class-ne0.true)

pub returns-then-class-ne0 : goal.returns-then-class-ne0
returns-then-class-ne0 c = ((λ h. read_token_lem _ _ _ _ _ _ _ _ c.requires.1 c.if-class-ne0.true c.token.ensures.0), c.token.ensures.1)

pub returns-then-levels-eq0 : goal.returns-then-levels-eq0
returns-then-levels-eq0 c = ((λ h. read_past _ _ _ _ _ _ _ _ c.if-levels-eq0.true c.past_levels.ensures.0), c.past_levels.ensures.1)

pub returns : goal.returns
returns c = ((λ h. leaf_read _ _ _ _ _ _ _ _ c.if-levels-eq0.false c.leaf_at.ensures.0 c.requires.1 c.if-class-ne0.false (none_found _ _ _ _ _ c.if-class-ne0.false refl h)), c.leaf_at.ensures.1)
