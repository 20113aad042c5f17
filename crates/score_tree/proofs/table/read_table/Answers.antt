use native.Mathlib.Omega.{arith}
use Rattle.score_tree.proofs.Loading.{load_begin, entry_in, load_class, load_broken, load_room, load_next, broken_is, broken_kept, end_more, end_is, end_kept}
use Rattle.score_tree.proofs.Asked.{ok_some, err_none}
use Rattle.std.proofs.lemmas.Result.{err_from_is_err_and}
use Rattle.score_tree.proofs.table.read_table.Goals as goal

pub loop-p-init : goal.loop-p-init
loop-p-init c = load_begin _ _ _ c.requires.0.whole c.requires.3 c.requires.2

pub whole_end-e-requires : goal.whole_end-e-requires
whole_end-e-requires c = let i = entry_in _ _ _ _ _ c.loop-p.invariant c.loop-p-test.true in omega (arith, i.0, i.1)

pub load_end-requires : goal.load_end-requires
load_end-requires c = let i = entry_in _ _ _ _ _ c.loop-p.invariant c.loop-p-test.true in (c.whole_end-e.ensures.is, rw c.whole_end-e.ensures.is i.0, rw c.whole_end-e.ensures.is i.1, c.requires.1, c.loop-p.invariant.within)

pub returns-in_err-end : goal.returns-in_err-end
returns-in_err-end c =
    let r = err_from_is_err_and c.from_residual.result c.from_residual.ensures.1 in
    let o = err_none _ _ c.ok_or.ensures.value c.in_err-end.was in
    let b = load_broken _ _ _ _ _ c.loop-p.invariant c.loop-p-test.true c.if-language-p-eq-PRODUCTION.true (rw o.0 at c.load_end.ensures) in
    rw (r.1, r.2, o.1) (record { is = broken_is _ _ b; kept = broken_kept _ _ _ b })

pub overflow_sub-e-then-language-p-eq-PRODUCTION : goal.overflow_sub-e-then-language-p-eq-PRODUCTION
overflow_sub-e-then-language-p-eq-PRODUCTION c = let r = load_room _ _ _ _ _ c.loop-p.invariant c.loop-p-test.true c.if-language-p-eq-PRODUCTION.true _ (rw (ok_some _ _ c.ok_or.ensures.value c.in_ok-end.was) at c.load_end.ensures) in let i = entry_in _ _ _ _ _ c.loop-p.invariant c.loop-p-test.true in omega (arith, i.0, c.whole_end-e.ensures.is)

pub put_figures-requires : goal.put_figures-requires
put_figures-requires c = let r = load_room _ _ _ _ _ c.loop-p.invariant c.loop-p-test.true c.if-language-p-eq-PRODUCTION.true _ (rw (ok_some _ _ c.ok_or.ensures.value c.in_ok-end.was) at c.load_end.ensures) in let i = entry_in _ _ _ _ _ c.loop-p.invariant c.loop-p-test.true in (omega (arith, r.0, c.whole_end-e.ensures.is), omega (arith, i.0, i.1, c.requires.1, c.loop-p.invariant.long, c.whole_end-e.ensures.is), c.loop-p.invariant.long)

pub loop-p-preserved-in_ok-end : goal.loop-p-preserved-in_ok-end
loop-p-preserved-in_ok-end c = load_next _ _ _ _ _ c.loop-p.invariant c.loop-p-test.true c.if-language-p-eq-PRODUCTION.true _ (rw (ok_some _ _ c.ok_or.ensures.value c.in_ok-end.was) at c.load_end.ensures) _ c.whole_end-e.ensures.is _ c.put_figures.ensures

pub loop-p-preserved : goal.loop-p-preserved
loop-p-preserved c = load_class _ _ _ _ _ c.loop-p.invariant c.loop-p-test.true c.if-language-p-eq-PRODUCTION.false _ c.whole_end-e.ensures.is

pub returns-then-q-table : goal.returns-then-q-table
returns-then-q-table c =
    let b = end_more _ _ _ _ _ c.loop-p.invariant c.loop-p-test.false c.if-q-table.true in
    record { is = broken_is _ _ b; kept = broken_kept _ _ _ b }

pub returns : goal.returns
returns c = record { is = end_is _ _ _ _ _ c.loop-p.invariant c.loop-p-test.false c.if-q-table.false; kept = end_kept _ _ _ _ _ c.loop-p.invariant c.loop-p-test.false c.if-q-table.false c.requires.0 }
