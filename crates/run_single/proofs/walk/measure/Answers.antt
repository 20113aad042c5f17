use mathlib.Core.Path.{refl}
use native.Mathlib.Omega.{arith}
use Rattle.tree_reader.proofs.Lookup.{zeros}
use Rattle.run_single.proofs.walk.measure.Goals as goal

pub measure-requires : goal.measure-requires
measure-requires c = ((refl, refl), c.requires.0, c.requires.1, c.requires.2, c.requires.3, c.requires.4, omega arith, omega arith, omega arith, zeros 66)
