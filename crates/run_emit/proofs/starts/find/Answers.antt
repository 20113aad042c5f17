use lib.ListN.{get_or}
use Rattle.run_emit.proofs.Ends.{nth, reached_none, reached_skip, reached_known, reached_more}
use Rattle.run_emit.proofs.starts.find.Goals as goal
use Rattle.run_emit.proofs.starts.find.Goals.{in-Some, in-None}

pub loop-i-init : goal.loop-i-init
loop-i-init c = λ f given ts ks a. reached_none a

pub end_of-end-requires : goal.end_of-end-requires
end_of-end-requires c = (c.requires.0, c.requires.1, nth c.requires.2 c.loop-i.i, get_or c.requires.3 c.loop-i.i 0, reached_skip c.requires.4 (c.loop-i.invariant _ _ _ _ c.requires.4) c.loop-i-test.true)

pub loop-i-preserved : goal.loop-i-preserved
loop-i-preserved c = λ f given ts ks a.
    let z = c.loop-i.invariant f given ts ks a in
    elim c.match-known.branch [
      | in-Some w ↦ reached_known a z c.loop-i-test.true w.in-Some.ensures w.node-is w.p-is
      | in-None w ↦ reached_more a z c.loop-i-test.true (w.end_of-end.ensures _ _ _ _ (reached_skip a z c.loop-i-test.true) a.kept) w.node-is w.p-is
    ]
