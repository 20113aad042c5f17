use mathlib.Core.Path.{refl}
use Rattle.run_measure.proofs.Wiping.{own_start, own_next, own_done}
use Rattle.run_measure.proofs.weigh.NumberedWeigher.add_own.Goals as goal

pub loop-key-init : goal.loop-key-init
loop-key-init c =
    let e = c.entries_at-key-items.ensures in
    rw c.into_iter-key-iterator.ensures.into_iter_gives
    (record { same = e.0; adds = own_start _ _ _ _ _ _ _ _ c.requires.2 c.count_in.ensures.0 e.1 c.entries_at-key-items.result.near c.own_one-total.ensures })

pub loop-key-preserved : goal.loop-key-preserved
loop-key-preserved c =
    let s = rw c.loop-key.invariant.same at c.in-Some.ensures.steps in
    record {
      same = s.5;
      adds = own_next _ _ _ _ _ _ _ _ c.loop-key.invariant.adds s.0 s.1 s.2 s.3 refl s.6 c.own_one-total-in-loop-key.ensures;
    }

pub returns : goal.returns
returns c = own_done _ _ _ _ _ _ _ _ c.in-None.ensures.steps c.loop-key.invariant.adds
