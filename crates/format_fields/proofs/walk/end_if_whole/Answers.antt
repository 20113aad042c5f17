use native.Mathlib.Omega.{arith}
use Rattle.format_fields.proofs.Places.{cut_head, cut_end, end_inside}
use Rattle.format_fields.proofs.walk.end_if_whole.Goals as goal

pub returns-then-s-p-lt3 : goal.returns-then-s-p-lt3
returns-then-s-p-lt3 c = cut_head _ _ (omega arith)

pub returns-then-s-e : goal.returns-then-s-e
returns-then-s-e c = cut_end _ _ _ c.whole_end-e.ensures.is c.if-s-e.true

pub returns : goal.returns
returns c = end_inside _ _ _ c.whole_end-e.ensures.is c.if-s-e.false
