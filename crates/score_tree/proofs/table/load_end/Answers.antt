use mathlib.Core.Path.{◌≡◌, ◌∙◌}
use mathlib.Core.Bool.{◌&&◌}
use Prim.Native.Nat.{◌+◌, ◌-◌, ◌*◌}
use lib.ListN.{get_or}
use lib.Dec.{eqb}
use borrow.Author.Tests.{eq-eqb, ne_eqb}
use Rattle.score_tree.proofs.Putting.{load_cut, and_true, and_false, load_long, load_tested}
use Rattle.score_tree.proofs.table.load_end.Goals as goal
use Rattle.score_tree.proofs.table.load_end.Goals.{then-table-q-eq-LOAD, else-table-q-eq-LOAD, then-end-q, else-end-q}

pub returns-in_err-end : goal.returns-in_err-end
returns-in_err-end c = rw c.from_residual.ensures (load_cut _ _ _ _ (c.end_if_whole.ensures.cut c.in_err-end.was))

pub returns : goal.returns
returns c =
    let s = c.args.language.now in
    let t = c.args.table.now in
    let h = c.end_if_whole.ensures.whole _ c.in_ok-end.was in
    let x : c.if-table-q-eq-LOAD.value ≡ (eqb (get_or t c.args.q 0) 0x24 && eqb (c.in_ok-end.end - c.args.q - 3) (2 * (c.args.e - c.args.p - 3))) =
    elim c.if-table-q-eq-LOAD.branch [ then-table-q-eq-LOAD w ↦ and_true _ _ (eq-eqb _ _ w.if-table-q-eq-LOAD.true) w.value-is | else-table-q-eq-LOAD w ↦ and_false _ _ (ne_eqb _ _ w.if-table-q-eq-LOAD.false) w.value-is ] in
    let z : c.if-end-q.is_load ≡ (c.if-table-q-eq-LOAD.value && (eqb (get_or t (c.args.q + 3) 0) (get_or s (c.args.p + 3) 0) && eqb (get_or t (c.args.q + 4) 0) (get_or s (c.args.p + 4) 0))) =
    elim c.if-end-q.branch [ then-end-q w ↦ load_long s c.args.p t c.args.q _ _ c.requires.0 h _ x c.requires.1 c.requires.2 w.if-end-q.true (w.is_load-is ∙ w.eq-is_load.ensures) | else-end-q w ↦ and_false _ _ w.if-end-q.false w.is_load-is ] in
    rw c.then_some.ensures (load_tested s c.args.p t c.args.q _ _ c.requires.0 h _ x z)
