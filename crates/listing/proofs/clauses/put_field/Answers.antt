use native.Mathlib.Omega.{arith}
use Rattle.listing.proofs.Lines.{not_whole, whole_field, contents_is, contents_length}
use Rattle.listing.proofs.clauses.put_field.Goals as goal

pub returns-then-s-end : goal.returns-then-s-end
returns-then-s-end c = (
  not_whole _ _ _ c.requires.1.0.is c.if-s-end.true _ _ (omega (arith, c.requires.1.1)),
  omega (arith, c.requires.1.0.past),
)

pub returns : goal.returns
returns c = (
  whole_field _ _ _ c.requires.1.0.is c.if-s-end.false _ (contents_is _ _ _ c.requires.1.0.is) _ _ _ _ c.put_contents.ensures.0,
  omega (arith, c.put_contents.ensures.1, contents_length _ _ _ c.requires.1.0.is c.if-s-end.false, c.requires.1.0.past),
)
