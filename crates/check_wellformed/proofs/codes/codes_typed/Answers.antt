use native.Mathlib.Omega.{arith}
use borrow.Author.Rules.{rules}
use mathlib.Core.Path.{refl}
use Rattle.format_fields.proofs.Places.{every_here, every_after, every_done, every_stop, every_next}
use Rattle.check_wellformed.proofs.Coded.{clause_at_lem, clause_long}
use Rattle.check_wellformed.proofs.Matching.{source_long, body_order}
use Rattle.check_wellformed.proofs.Along.{along_clauses, along_long, clause_beside, clause_next}
use Rattle.check_wellformed.proofs.codes.codes_typed.Goals as goal

pub loop-to-init : goal.loop-to-init
loop-to-init c = (λ f z. z, c.requires.0, λ f z. refl, refl, along_clauses _ _ _ _ c.requires.1 c.requires.2 (body_order _ _ _ _ _ _ c.requires.3.1 c.args.parts.now.source_bytes c.args.parts.now.body_bytes))

pub whole_key-requires : goal.whole_key-requires
whole_key-requires c = let k = clause_long _ _ (clause_at_lem _ _ (every_here _ _ _ c.loop-to.invariant.1 c.loop-to-test.true).0) in omega (arith, k)

pub skip_below-from-requires : goal.skip_below-from-requires
skip_below-from-requires c = along_long _ _ _ _ c.loop-to.invariant.4 (source_long _ _ _ _ _ _ c.requires.3.1 c.args.parts.now.source_bytes c.args.parts.now.body_bytes)

pub whole_end-e-requires : goal.whole_end-e-requires
whole_end-e-requires c = let k = clause_long _ _ (clause_at_lem _ _ (every_here _ _ _ c.loop-to.invariant.1 c.loop-to-test.true).0) in omega (arith, k)

pub code_typed-requires : goal.code_typed-requires
code_typed-requires c = (c.whole_end-e.ensures.is, clause_at_lem _ _ (every_here _ _ _ c.loop-to.invariant.1 c.loop-to-test.true).0, clause_beside _ _ _ _ c.loop-to.invariant.4 c.loop-to-test.true (every_here _ _ _ c.loop-to.invariant.1 c.loop-to-test.true).0 _ c.whole_key.ensures.0 _ c.skip_below-from.ensures, (_, c.loop-to.invariant.0 _ c.requires.3.1))

pub returns-then-not-code_typed : goal.returns-then-not-code_typed
returns-then-not-code_typed c = λ f z. (every_stop _ _ _ _ (c.loop-to.invariant.2 f z) _ (c.code_typed.ensures f (c.loop-to.invariant.0 f z)).0 _ c.whole_end-e.ensures.is c.loop-to-test.true (c.if-not-code_typed.true), (c.code_typed.ensures f (c.loop-to.invariant.0 f z)).1)

pub loop-to-preserved : goal.loop-to-preserved
loop-to-preserved c = (λ f z. (c.code_typed.ensures f (c.loop-to.invariant.0 f z)).1, every_after _ _ _ _ c.whole_end-e.ensures.is c.loop-to.invariant.1 c.loop-to-test.true, λ f z. every_next _ _ _ _ (c.loop-to.invariant.2 f z) _ (c.code_typed.ensures f (c.loop-to.invariant.0 f z)).0 _ c.whole_end-e.ensures.is c.loop-to-test.true (c.if-not-code_typed.false), search rules, clause_next _ _ _ _ c.loop-to.invariant.4 c.loop-to-test.true (every_here _ _ _ c.loop-to.invariant.1 c.loop-to-test.true).0 _ c.whole_key.ensures.0 _ c.skip_below-from.ensures _ c.whole_end-e.ensures.is)

pub returns : goal.returns
returns c = λ f z. (every_done _ _ _ _ (c.loop-to.invariant.2 f z) c.loop-to-test.false, c.loop-to.invariant.0 f z)
