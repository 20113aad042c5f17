use native.Mathlib.Omega.{arith}
use mathlib.Core.Path.{refl, sym, ap, ◌∙◌}
use Rattle.tree_reader.proofs.Lookup.{put_length}
use lib.ListN.{length}
use Rattle.format_translation.proofs.Uses.{front_start, filling_start, filled_end, filled_clause, put_here, front_next, filling_next, put_asks, put_value}
use Rattle.format_translation.proofs.index.put_uses.Goals as goal

pub loop-p-init : goal.loop-p-init
loop-p-init c = (c.requires.1, front_start _ c.requires.3.0 c.requires.3.1, λ b e. filling_start _ c.args.uses.now b e c.requires.2)

pub returns-then-is_clause : goal.returns-then-is_clause
returns-then-is_clause c = (c.loop-p.invariant.0, λ b e. filled_clause _ _ _ b c.loop-p.invariant.1 (c.loop-p.invariant.2 b e) c.loop-p-test.true (sym c.is_clause.ensures ∙ c.if-is_clause.true))

pub whole_end-e-requires : goal.whole_end-e-requires
whole_end-e-requires c = let m = put_here _ _ c.loop-p.invariant.1 c.loop-p-test.true (sym c.is_clause.ensures ∙ c.if-is_clause.false) in omega (arith, m.ends.0, m.ends.1)

pub order_at-requires : goal.order_at-requires
order_at-requires c = let m = put_here _ _ c.loop-p.invariant.1 c.loop-p-test.true (sym c.is_clause.ensures ∙ c.if-is_clause.false) in omega (arith, m.ends.0, m.ends.1)

pub overflow_sub-e : goal.overflow_sub-e
overflow_sub-e c = let m = put_here _ _ c.loop-p.invariant.1 c.loop-p-test.true (sym c.is_clause.ensures ∙ c.if-is_clause.false) in omega (arith, m.ends.0, m.ends.1, c.whole_end-e.ensures.is)

pub bounds-body-e : goal.bounds-body-e
bounds-body-e c = let m = put_here _ _ c.loop-p.invariant.1 c.loop-p-test.true (sym c.is_clause.ensures ∙ c.if-is_clause.false) in omega (arith, m.ends.0, m.ends.1, c.whole_end-e.ensures.is)

pub put_use-requires : goal.put_use-requires
put_use-requires c = let m = put_here _ _ c.loop-p.invariant.1 c.loop-p-test.true (sym c.is_clause.ensures ∙ c.if-is_clause.false) in put_asks _ _ _ _ _ _ m c.whole_end-e.ensures.is c.order_at.ensures.0 refl c.loop-p.invariant.0

pub loop-p-smaller : goal.loop-p-smaller
loop-p-smaller c = omega (arith, c.whole_end-e.ensures.past, c.loop-p-test.true)

pub loop-p-preserved : goal.loop-p-preserved
loop-p-preserved c = (ap length c.put_use.ensures ∙ (put_length _ _ _ ∙ c.loop-p.invariant.0), front_next _ _ c.loop-p.invariant.1 c.loop-p-test.true (sym c.is_clause.ensures ∙ c.if-is_clause.false) _ c.whole_end-e.ensures.is, λ b e k j h i. let m = put_here _ _ c.loop-p.invariant.1 c.loop-p-test.true (sym c.is_clause.ensures ∙ c.if-is_clause.false) in filling_next _ _ _ b c.loop-p.invariant.1 (c.loop-p.invariant.2 b e) c.loop-p-test.true (sym c.is_clause.ensures ∙ c.if-is_clause.false) _ c.whole_end-e.ensures.is c.loop-p.invariant.0 m _ _ c.order_at.ensures.0 _ (put_value _ _ _ _ m c.whole_end-e.ensures.is refl) c.put_use.ensures k j h i)

pub returns : goal.returns
returns c = (c.loop-p.invariant.0, λ b e. filled_end _ _ _ b c.loop-p.invariant.1 (c.loop-p.invariant.2 b e) c.loop-p-test.false)
