use mathlib.Core.Path.{refl}
use mathlib.Core.Logic.{inl}
use native.Mathlib.Omega.{arith}
use Rattle.tree_reader.proofs.Lookup.{zeros}
use Rattle.run_operation.proofs.run.measure_numbered.Goals as goal

pub measure_with-requires : goal.measure_with-requires
measure_with-requires c = (c.requires.0, zeros 7168, c.width_of-width.ensures.0, omega (arith, c.width_of-width.ensures.1), c.width_of-width.ensures.2, inl refl, omega (arith, c.if-width-le-FEW_NUMBERS.true), zeros 1056, c.requires.1, c.requires.2)

pub measure_with-requires-2 : goal.measure_with-requires-2
measure_with-requires-2 c = (c.requires.0, zeros 7168, c.width_of-width.ensures.0, omega (arith, c.width_of-width.ensures.1), c.width_of-width.ensures.2, inl refl, omega (arith, c.width_of-width.ensures.2), zeros 16896, c.requires.1, c.requires.2)
