use Rattle.tree_reader.proofs.Members.{mentions_first, mentions_class, mentions_production}
use Rattle.tree_reader.proofs.kinds.mentions_kind.Goals as goal

pub returns-then-s-p : goal.returns-then-s-p
returns-then-s-p c = mentions_first _ _ _ c.if-s-p.true

pub returns-then-s-p-eq-CLASS : goal.returns-then-s-p-eq-CLASS
returns-then-s-p-eq-CLASS c = mentions_class _ _ _ c.if-s-p.false c.if-s-p-eq-CLASS.true

pub returns : goal.returns
returns c = mentions_production _ _ _ c.if-s-p.false c.if-s-p-eq-CLASS.false c.requires.1 c.requires.0 c.requires.2 c.contains.ensures.value
