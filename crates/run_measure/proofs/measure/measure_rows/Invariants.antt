use Prim.Native.Nat.{◌+◌, ◌*◌, ◌-◌}
use lib.ListN.{length}
use Rattle.run_measure.specs.Inner.Weighing.{window, weigh_at}
use Rattle.run_measure.specs.Inner.Descent.{down_row}
use Rattle.run_measure.proofs.Rows.{Open, Tidy}
use Rattle.run_measure.proofs.Learning.{Learning}
use Rattle.run_measure.proofs.measure.measure_rows.Given as goal

abbrev pub invariant-loop-row : goal.invariant-loop-row
invariant-loop-row g l =
    let v = weigh_at (l.counts, l.entries) l.top l.width in
    record {
      rows : Open l.source l.index v l.tree l.top l.levels l.width (down_row l.source l.index v l.tree l.top l.levels (window l.width l.initial.weights 0) l.initial.row.first l.initial.row.last l.initial.row.done.end l.initial.row.done.length l.initial.row.done.cost)
          l.firsts l.lasts l.weights l.depth l.base l.row.first l.row.last l.row.done.end l.row.done.length l.row.done.cost;
      learning : Learning l.source l.index l.tree l.levels l.initial.ends l.firsts l.lasts l.starts l.ends l.depth l.row.first l.row.last l.row.done.end;
      tidy : Tidy l.entries l.width l.firsts l.weights l.depth l.base;
    }

abbrev pub decreases-loop-row : goal.decreases-loop-row
decreases-loop-row g l = 2 * (length l.tree - l.row.done.end) + l.depth
