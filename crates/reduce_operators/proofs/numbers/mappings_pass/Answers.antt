use native.Mathlib.Omega.{arith}
use mathlib.Core.Path.{sym, ◌∙◌}
use Rattle.format_translation.proofs.Uses.{front_start, put_here, front_next}
use Rattle.reduce_operators.proofs.Numbering.{passing_start, passing_clause, passing_fails, passing_next, passing_end, key_may, mapping_tested}
use Rattle.reduce_operators.proofs.numbers.mappings_pass.Goals as goal

pub loop-p-init : goal.loop-p-init
loop-p-init g c = record { front = front_start _ c.requires.body.0 c.requires.body.1; left = λ b passes e t. passing_start passes t.clauses _ b e }

pub returns-then-is_clause : goal.returns-then-is_clause
returns-then-is_clause g c = λ b passes e t. passing_clause passes t.clauses _ _ b (c.loop-p.invariant.left b passes e t) c.loop-p-test.true c.loop-p.invariant.front (sym c.is_clause.ensures ∙ c.if-is_clause.true)

pub order_at-requires : goal.order_at-requires
order_at-requires g c = let m = (put_here _ _ c.loop-p.invariant.front c.loop-p-test.true (sym c.is_clause.ensures ∙ c.if-is_clause.false)) in omega (arith, m.ends.0, m.ends.1)

pub test-requires : goal.test-requires
test-requires g c = key_may (goal.F-pre g c.args.test) c.requires.may _ _ _ (put_here _ _ c.loop-p.invariant.front c.loop-p-test.true (sym c.is_clause.ensures ∙ c.if-is_clause.false)) c.order_at.ensures.0

pub returns-then-not-test : goal.returns-then-not-test
returns-then-not-test g c = λ b passes e t.
    passing_fails passes t.clauses _ _ b (c.loop-p.invariant.left b passes e t) c.loop-p-test.true
    (mapping_tested _ passes t _ _ _ (put_here _ _ c.loop-p.invariant.front c.loop-p-test.true (sym c.is_clause.ensures ∙ c.if-is_clause.false)) c.order_at.ensures.0 _ c.test.ensures ∙ c.if-not-test.true)

pub whole_end-p-requires : goal.whole_end-p-requires
whole_end-p-requires g c = let m = (put_here _ _ c.loop-p.invariant.front c.loop-p-test.true (sym c.is_clause.ensures ∙ c.if-is_clause.false)) in omega (arith, m.ends.0, m.ends.1)

pub loop-p-preserved : goal.loop-p-preserved
loop-p-preserved g c = record {
  front = front_next _ _ c.loop-p.invariant.front c.loop-p-test.true (sym c.is_clause.ensures ∙ c.if-is_clause.false) _ c.whole_end-p.ensures.is;
  left = λ b passes e t.
      passing_next passes t.clauses _ _ b (c.loop-p.invariant.left b passes e t) c.loop-p-test.true
      (mapping_tested _ passes t _ _ _ (put_here _ _ c.loop-p.invariant.front c.loop-p-test.true (sym c.is_clause.ensures ∙ c.if-is_clause.false)) c.order_at.ensures.0 _ c.test.ensures ∙ c.if-not-test.false)
      _ c.whole_end-p.ensures.is;
}

pub returns : goal.returns
returns g c = λ b passes e t. passing_end passes t.clauses _ _ b (c.loop-p.invariant.left b passes e t) c.loop-p-test.false
