use mathlib.Core.Path.{refl}
use mathlib.Core.Logic.{inr}
use native.Mathlib.Omega.{arith}
use Rattle.tree_reader.proofs.Lookup.{zeros}
use Rattle.run_operation.proofs.Laws.{opened_indexed, measures}
use Rattle.run_operation.proofs.Front.{counted_none}
use Rattle.run_operation.proofs.run.measure_single.Goals as goal

pub begin-requires : goal.begin-requires
begin-requires c = (refl, zeros 1024, zeros 0, c.requires.1, inr refl, c.requires.4)

pub measure-requires : goal.measure-requires
measure-requires c = ((opened_indexed c.requires.4.2).sound, c.requires.0, omega arith, omega arith, omega arith, c.requires.2)

pub returns : goal.returns
returns c = λ t f z. measures z _ _ _ _ c.requires.3 (λ u e. c.measure.ensures.is f _ u (opened_indexed z) (counted_none _ _ _ f c.begin.auto.entries (c.begin.ensures t f z)) e) c.measure.ensures.within c.measure.ensures.learnt
