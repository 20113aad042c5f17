use native.Mathlib.Omega.{arith}
use mathlib.Core.Path.{refl}
use Rattle.tree_reader.proofs.Lookup.{zeros}
use Rattle.check_wellformed.proofs.check.check_well_formed.Goals as goal

pub build-requires : goal.build-requires
build-requires c = (c.requires.1.target_short, refl, zeros 8224)

pub fill_uses-requires : goal.fill_uses-requires
fill_uses-requires c = let p = c.requires.1 in let h = p.body_short in (omega (arith, h), refl, zeros 8200, (_, p.body))
