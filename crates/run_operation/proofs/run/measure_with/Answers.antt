use mathlib.Core.Path.{refl}
use native.Mathlib.Omega.{arith}
use Rattle.tree_reader.proofs.Lookup.{zeros}
use Rattle.run_operation.proofs.Laws.{opened_indexed, measures}
use Rattle.run_operation.proofs.run.measure_with.Goals as goal

pub begin-requires : goal.begin-requires
begin-requires c = (refl, zeros 1024, c.requires.1, c.requires.2, c.requires.5, c.requires.9)

pub measure-requires : goal.measure-requires
measure-requires c = (tt, (opened_indexed c.requires.9.2).sound, c.requires.0, omega arith, omega arith, omega arith, c.requires.3, c.requires.4, c.requires.6, c.requires.7)

pub returns : goal.returns
returns c = λ t f z. measures z _ _ _ _ c.requires.8 (λ u e. c.measure.ensures.is f u (opened_indexed z) (c.begin.ensures t f z) e) c.measure.ensures.within c.measure.ensures.learnt
