use native.Mathlib.Omega.{arith}
use Rattle.run_table.proofs.Tables.{ranked_long, target_indexed, source_kept, ready}
use Rattle.run_table.proofs.prepare.prepare.Goals as goal

pub span_all-requires : goal.span_all-requires
span_all-requires c = ((target_indexed _ _ _ _ _ _ _ c.requires.0 c.fill.ensures c.put_hints.ensures c.put_ranks.ensures (λ i. omega (arith, c.type_inv.target i)) c.requires.1.1.pieces.target_short _ c.requires.1.1.pieces.target).sound, c.requires.1.1.short, ranked_long _ _ _ _ _ _ _ c.requires.0 c.fill.ensures c.put_hints.ensures c.put_ranks.ensures)

pub returns : goal.returns
returns c = (source_kept _ _ _ _ _ _ _ _ _ c.requires.0 c.fill.ensures c.put_hints.ensures c.put_ranks.ensures c.span_all.ensures.0 c.put_clauses.ensures, λ f z m. ready _ _ _ _ _ _ _ _ _ f z c.requires.0 c.fill.ensures c.put_hints.ensures c.put_ranks.ensures (c.span_all.ensures.1 _ f z (target_indexed _ _ _ _ _ _ _ c.requires.0 c.fill.ensures c.put_hints.ensures c.put_ranks.ensures (λ i. omega (arith, c.type_inv.target i)) z.pieces.target_short _ z.pieces.target) m) c.put_clauses.ensures (λ i. omega (arith, c.type_inv.source i)) (λ i. omega (arith, c.type_inv.body i)))
