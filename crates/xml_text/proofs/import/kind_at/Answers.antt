use Rattle.xml_text.proofs.Rows.{root_kind, below_in, below_kind}
use Rattle.xml_text.proofs.import.kind_at.Goals as goal

pub returns-then-depth-eq0 : goal.returns-then-depth-eq0
returns-then-depth-eq0 c = root_kind _ _ _ _ c.requires c.if-depth-eq0.true

pub bounds-language-at : goal.bounds-language-at
bounds-language-at c = below_in _ _ _ _ c.requires c.if-depth-eq0.false

pub returns : goal.returns
returns c = below_kind _ _ _ _ c.if-depth-eq0.false
