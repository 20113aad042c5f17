use mathlib.Core.Path.{◌∙◌}
use native.Mathlib.Omega.{arith}
use Rattle.run_table.proofs.Spans.{below_then, sound_beside, fields_beside}
use Rattle.run_table.proofs.Clauses.{walk_next, walk_ends}
use Rattle.run_table.proofs.prepare.span_all.Goals as goal

pub span_field-requires : goal.span_field-requires
span_field-requires c = (sound_beside _ _ c.loop-p.invariant.0 c.requires.2 _ c.requires.0, c.requires.1, c.loop-p-test.true, c.loop-p.invariant.0.long ∙ c.requires.2)

pub loop-p-preserved : goal.loop-p-preserved
loop-p-preserved c = (below_then _ _ _ 0 0 (omega arith) c.loop-p.invariant.0 c.span_field.ensures.0, walk_next _ _ _ _ _ _ _ (λ i. omega (arith, c.type_inv.body i)) _ _ c.loop-p-test.true c.field_end-p.ensures.is (λ l given a w. c.span_field.ensures.1 l given a (fields_beside _ _ c.loop-p.invariant.0 c.requires.2 _ _ _ _ l given a w)) c.loop-p.invariant.1)

pub returns : goal.returns
returns c = (c.loop-p.invariant.0, walk_ends _ _ _ _ _ _ _ (λ i. omega (arith, c.type_inv.body i)) c.loop-p-test.false c.loop-p.invariant.1)
