use native.Mathlib.Omega.{arith}
use Rattle.format_fields.proofs.Places.{every_here}
use Rattle.format_language.proofs.Facts.{entry_kind}
use Rattle.check_wellformed.proofs.Matching.{walk_start, walk_done, asks, walk_missing, walk_next, walk_long}
use Rattle.check_wellformed.proofs.clauses.clauses_match.Goals as goal

pub loop-from-init : goal.loop-from-init
loop-from-init c = walk_start _ _ _ _ c.requires

pub bounds-source-from : goal.bounds-source-from
bounds-source-from c = let k = entry_kind _ _ (every_here _ _ _ c.loop-from.invariant.entries c.loop-from-test.true).0 in omega (arith, k.0)

pub skip_below-m-requires : goal.skip_below-m-requires
skip_below-m-requires c = walk_long _ _ _ _ _ _ _ c.loop-from.invariant

pub whole_key-key-requires : goal.whole_key-key-requires
whole_key-key-requires c = let k = entry_kind _ _ (every_here _ _ _ c.loop-from.invariant.entries c.loop-from-test.true).0 in omega (arith, k.0)

pub clauses_end-requires : goal.clauses_end-requires
clauses_end-requires c = (asks _ _ _ _ _ _ _ c.loop-from.invariant (λ i. omega (arith, c.type_inv.source i)) (λ i. omega (arith, c.type_inv.body i)) c.loop-from-test.true _ c.from-kind.ensures _ c.skip_below-m.ensures, c.whole_key-key.ensures.1)

pub returns-in_default : goal.returns-in_default
returns-in_default c = walk_missing _ _ _ _ _ _ _ c.loop-from.invariant (λ i. omega (arith, c.type_inv.source i)) (λ i. omega (arith, c.type_inv.body i)) c.loop-from-test.true _ c.from-kind.ensures _ c.skip_below-m.ensures _ c.whole_key-key.ensures.0 c.clauses_end.ensures c.in_default.is

pub whole_end-from-requires : goal.whole_end-from-requires
whole_end-from-requires c = let k = entry_kind _ _ (every_here _ _ _ c.loop-from.invariant.entries c.loop-from-test.true).0 in omega (arith, k.0)

pub loop-from-preserved : goal.loop-from-preserved
loop-from-preserved c = walk_next _ _ _ _ _ _ _ c.loop-from.invariant (λ i. omega (arith, c.type_inv.source i)) (λ i. omega (arith, c.type_inv.body i)) c.loop-from-test.true _ c.from-kind.ensures _ c.skip_below-m.ensures _ c.whole_key-key.ensures.0 c.clauses_end.ensures _ c.in-Some.is _ c.whole_end-from.ensures.is

pub returns : goal.returns
returns c = walk_done _ _ _ _ _ _ _ c.loop-from.invariant c.loop-from-test.false
