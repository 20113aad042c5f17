use Rattle.std.proofs.Common.{arith}
use Rattle.xml_text.proofs.Takes.{taken_start, taken_done, taken_full, taken_again}
use Rattle.xml_text.proofs.contents.write_contents.Goals as goal

pub loop-at-init : goal.loop-at-init
loop-at-init c = record { inside = omega arith; room = omega arith; taken = λ v h g. taken_start _ _ v h }

pub returns-in_default : goal.returns-in_default
returns-in_default c = λ v h g. taken_full _ _ g (c.loop-at.invariant.taken v h g) c.loop-at.auto.out c.take.ensures c.in_default.is

pub loop-at-preserved : goal.loop-at-preserved
loop-at-preserved c =
    let w = c.take.ensures.inside _ _ c.in-Some.is in
    record {
      inside = w.1;
      room = omega (arith, w.2, c.take.auto.out);
      taken = λ v h g. taken_again _ _ g (c.loop-at.invariant.taken v h g) c.loop-at.auto.out c.take.ensures c.in-Some.is;
    }

pub returns : goal.returns
returns c = λ v h g. taken_done _ _ g (c.loop-at.invariant.taken v h g) c.loop-at-test.false
