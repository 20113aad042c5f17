use Rattle.format_translation.proofs.Items.{clause_tag, clause_tag_else}
use Rattle.format_translation.proofs.body.is_clause.Goals as goal

pub returns-then-tag-eq-CLAUSE : goal.returns-then-tag-eq-CLAUSE
returns-then-tag-eq-CLAUSE c = clause_tag _ c.if-tag-eq-CLAUSE.true

pub returns : goal.returns
returns c = clause_tag_else _ c.if-tag-eq-CLAUSE.false
