use mathlib.Core.Path.{refl}
use Rattle.run_measure.proofs.Wiping.{wipe_next, wipe_done}
use Rattle.run_measure.proofs.weigh.wipe_entries.Goals as goal

pub loop-key-preserved : goal.loop-key-preserved
loop-key-preserved c =
    let s = rw c.loop-key.invariant.same at c.in-Some.ensures.steps in
    let w = c.wipe_one.ensures in
    record { same = s.5; wipes = wipe_next _ _ _ _ c.loop-key.invariant.wipes s.0 s.1 refl s.6 (w.kept, (w.less, w.none)) c.requires.0 }

pub returns : goal.returns
returns c = wipe_done _ _ _ _ c.in-None.ensures.steps c.loop-key.invariant.wipes
