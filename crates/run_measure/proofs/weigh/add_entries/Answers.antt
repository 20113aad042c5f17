use mathlib.Core.Path.{refl}
use Rattle.run_measure.proofs.Windows.{enter_next, enter_done}
use Rattle.run_measure.proofs.weigh.add_entries.Goals as goal

pub loop-key-preserved : goal.loop-key-preserved
loop-key-preserved c =
    let s = rw c.loop-key.invariant.same at c.in-Some.ensures.steps in
    record {
      same = s.5;
      adds = enter_next _ _ _ _ _ _ _ _ _ c.loop-key.invariant.adds s.0 c.requires.0 s.1 s.2 s.3 refl s.6 c.add_one-total.ensures;
    }

pub returns : goal.returns
returns c = enter_done _ _ _ _ _ _ _ c.in-None.ensures.steps c.loop-key.invariant.adds
