use native.Mathlib.Omega.{arith}
use Rattle.listing.proofs.Lines.{puts_other, puts_short, puts_short_numbered, puts_whole, puts_numbered_whole}
use Rattle.listing.proofs.clauses.put_contents.Goals as goal

pub returns-then-contents-lt2 : goal.returns-then-contents-lt2
returns-then-contents-lt2 c = (puts_short _ _ _ _ (omega arith) c.if-tag-eq-CLAUSE.true c.if-contents-lt2.true, omega arith)

pub returns-then-tag-eq-CLAUSE : goal.returns-then-tag-eq-CLAUSE
returns-then-tag-eq-CLAUSE c = (
  puts_whole _ _ c.if-tag-eq-CLAUSE.true c.if-contents-lt2.false _ _ _ _ c.put_clause.ensures.0,
  omega (arith, c.put_clause.ensures.1),
)

pub returns-then-contents-lt3 : goal.returns-then-contents-lt3
returns-then-contents-lt3 c = (puts_short_numbered _ _ _ _ (omega arith) c.if-tag-eq-NUMBERED_CLAUSE.true c.if-contents-lt3.true, omega arith)

pub returns-then-tag-eq-NUMBERED_CLAUSE : goal.returns-then-tag-eq-NUMBERED_CLAUSE
returns-then-tag-eq-NUMBERED_CLAUSE c = (
  puts_numbered_whole _ _ c.if-tag-eq-NUMBERED_CLAUSE.true c.if-contents-lt3.false _ _ _ _ c.put_numbered.ensures.0,
  omega (arith, c.put_numbered.ensures.1, c.if-contents-lt3.false),
)

pub returns : goal.returns
returns c = (puts_other _ _ _ _ (omega arith) c.if-tag-eq-CLAUSE.false c.if-tag-eq-NUMBERED_CLAUSE.false, omega arith)
