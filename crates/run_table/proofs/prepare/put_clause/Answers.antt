use mathlib.Core.Path.{refl}
use Rattle.run_table.proofs.Itemed.{clause_other, clause_far, clause_put}
use Rattle.run_table.proofs.prepare.put_clause.Goals as goal

pub returns-then-body-p-ne-CLAUSE : goal.returns-then-body-p-ne-CLAUSE
returns-then-body-p-ne-CLAUSE c = clause_other _ _ _ c.if-body-p-ne-CLAUSE.true

pub returns-then-key-ge-INDEX : goal.returns-then-key-ge-INDEX
returns-then-key-ge-INDEX c = clause_far _ _ _ _ _ c.pair_at-key.ensures.0 refl c.if-key-ge-INDEX.true

pub returns : goal.returns
returns c = clause_put _ _ _ _ _ c.if-body-p-ne-CLAUSE.false c.pair_at-key.ensures.0 refl c.if-key-ge-INDEX.false
