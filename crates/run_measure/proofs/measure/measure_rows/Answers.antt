use Prim.Native.Nat.{◌+◌}
use mathlib.Core.Path.{◌≡◌, refl, sym}
use native.Mathlib.Omega.{arith}
use lib.ListN.{get_or}
use Rattle.std.proofs.Common.{rules, Err}
use Rattle.run_measure.specs.Inner.Weighing.{window}
use Rattle.run_measure.proofs.Windows.{kept_then, weighed_only}
use Rattle.run_measure.proofs.Laws.{step_row, deeper}
use Rattle.run_measure.proofs.Rows.{open_in, open_room, open_start, open_done, open_back, open_deep, open_err, open_on, open_down, tidy_start, tidy_deepest, tidy_back, tidy_on, tidy_down}
use Rattle.run_measure.proofs.Learning.{learn_start, learn_back, learn_on, learn_down}
use Rattle.run_measure.proofs.measure.measure_rows.Goals as goal

pub loop-row-init : goal.loop-row-init
loop-row-init g c = record {
  rows = open_start _ _ _ _ _ _ _ _ _ _ _ _ _ _ _ c.requires.2 c.requires.4 c.requires.5 c.requires.6 refl refl c.requires.9;
  learning = learn_start _ _ _ _ _ _ _ _ _ _ _ refl;
  tidy = tidy_start _ _ _ _ c.requires.10;
}

pub returns-then-depth-eq0-clause-is : goal.returns-then-depth-eq0-clause-is
returns-then-depth-eq0-clause-is g c =
    let o = c.loop-row.invariant.rows in
    (open_done _ _ _ _ _ _ _ o c.if-row.true c.if-depth-eq0.true, (o.inside, o.under, o.cheap))

pub wipe-requires : goal.wipe-requires
wipe-requires g c =
    let r = open_room _ _ _ _ _ _ _ c.loop-row.invariant.rows c.requires.3 in
    let tidy = c.loop-row.invariant.tidy in
    rw c.from.ensures
    (c.requires.0, c.requires.7, c.requires.8, omega arith, tidy.none, tidy_deepest _ _ _ _ tidy c.loop-row.invariant.rows.based c.if-depth-eq0.false)

pub loop-row-preserved-then-row : goal.loop-row-preserved-then-row
loop-row-preserved-then-row g c =
    let o = c.loop-row.invariant.rows in
    rw (c.from.ensures, c.from-then-row.ensures)
    (record {
      rows = open_back _ _ _ _ _ _ _ o c.wipe.ensures.kept c.if-row.true c.if-depth-eq0.false;
      learning = learn_back _ _ _ _ c.loop-row.invariant.learning c.if-row.true c.if-depth-eq0.false o.inside (rw c.from.ensures at c.keep_end.ensures);
      tidy = tidy_back _ _ _ _ c.loop-row.invariant.tidy o.based c.wipe.ensures c.if-depth-eq0.false;
    })

pub bounds-source-row-in-loop-row : goal.bounds-source-row-in-loop-row
bounds-source-row-in-loop-row g c = (open_in _ _ _ _ _ _ _ c.loop-row.invariant.rows c.if-row.false c.requires.1.short).0

pub returns-then-out_of_levels-clause-is : goal.returns-then-out_of_levels-clause-is
returns-then-out_of_levels-clause-is g c = (open_deep _ _ _ _ _ _ _ c.loop-row.invariant.rows c.if-row.false (sym c.if-out_of_levels.ensures), tt)

pub returns-in_err-found-clause-is : goal.returns-in_err-found-clause-is
returns-in_err-found-clause-is g c =
    let why : c.from_residual.result ≡ Err c.in_err-found.field-0.0 = search rules in
    rw why (open_err _ _ _ _ _ _ _ c.loop-row.invariant.rows c.if-row.false (sym c.if-out_of_levels.ensures) _ c.weigh-total.ensures.is _ c.step_at.ensures.is c.in_err-found.was, tt)

pub wipe-requires-then-found : goal.wipe-requires-then-found
wipe-requires-then-found g c =
    let r = open_room _ _ _ _ _ _ _ c.loop-row.invariant.rows c.requires.3 in (
      c.requires.0,
      c.requires.7,
      c.requires.8,
      omega (arith, c.weigh-total.ensures.kept.long),
      c.weigh-total.ensures.none,
      weighed_only _ _ _ _ _ (window c.args.width c.loop-row.weights c.loop-row.base) _ _ c.weigh-total.ensures.is,
    )

pub loop-row-preserved-then-found : goal.loop-row-preserved-then-found
loop-row-preserved-then-found g c =
    let o = c.loop-row.invariant.rows in
    let under = sym c.if-out_of_levels.ensures in
    record {
      rows = open_on _ _ _ _ _ _ _ o c.if-row.false under _ c.weigh-total.ensures.is _ c.step_at.ensures.is c.in_ok-found.was c.step_at.ensures.within
          _ (kept_then c.weigh-total.ensures.kept c.wipe-then-found.ensures.kept) c.if-found.true;
      learning = learn_on _ _ _ _ c.loop-row.invariant.learning c.if-row.false under _ c.step_at.ensures.decides c.in_ok-found.was
          (step_row _ _ _ _ _ c.in_ok-found.was c.step_at.ensures.within).0 c.if-found.true;
      tidy = tidy_on _ _ _ _ c.loop-row.invariant.tidy o.based c.weigh-total.ensures.kept c.wipe-then-found.ensures;
    }

pub overflow_cast-lasts : goal.overflow_cast-lasts
overflow_cast-lasts g c =
    let z = open_in _ _ _ _ _ _ _ c.loop-row.invariant.rows c.if-row.false c.requires.1.short in
    omega arith

pub loop-row-preserved : goal.loop-row-preserved
loop-row-preserved g c =
    let o = c.loop-row.invariant.rows in
    let under = sym c.if-out_of_levels.ensures in
    let deep = deeper c.args.index.now (get_or c.args.source.now c.loop-row.row.first 0) _ _ o.shallow under _ c.step_at.ensures.childless c.in_ok-found.was c.if-found.false in
    let z = open_in _ _ _ _ _ _ _ o c.if-row.false c.requires.1.short in
    let only = weighed_only c.args.counts.now c.args.entries.now c.loop-row.row.first c.args.top c.args.width (window c.args.width c.loop-row.weights c.loop-row.base)
    _ (c.loop-row.base + c.args.width) c.weigh-total.ensures.is in
    record {
      rows = open_down _ _ _ _ _ _ _ o c.if-row.false under _ c.weigh-total.ensures.is _ c.step_at.ensures.is c.in_ok-found.was c.step_at.ensures.within
          _ c.weigh-total.ensures.kept refl c.requires.1.short c.requires.3 deep;
      learning = learn_down _ _ _ _ c.loop-row.invariant.learning c.if-row.false under _ c.step_at.ensures.decides c.in_ok-found.was
          (step_row _ _ _ _ _ c.in_ok-found.was c.step_at.ensures.within).0 o.first_long o.last_long c.requires.3 deep z.0 z.1;
      tidy = tidy_down _ _ _ _ c.loop-row.invariant.tidy o.based _ (omega (arith, o.first_long, o.shallow)) c.weigh-total.ensures.kept c.weigh-total.ensures.none only;
    }
