use native.Mathlib.Omega.{arith}
use Rattle.reduce_signs.proofs.Copying.{one_asks, one_gives}
use Rattle.reduce_signs.proofs.apply.apply_one.Goals as goal

pub source-requires : goal.source-requires
source-requires c = (one_asks _ c.in-Source.is c.requires.0, omega (arith, c.requires.1))

pub target-requires : goal.target-requires
target-requires c = (one_asks _ c.in-Target.is c.requires.0, omega (arith, c.requires.1))

pub identity-requires : goal.identity-requires
identity-requires c = (one_asks _ c.in-Identity.is c.requires.0, omega (arith, c.requires.1))

pub returns-in-Source : goal.returns-in-Source
returns-in-Source c = one_gives _ _ _ _ c.in-Source.is c.source.ensures

pub returns-in-Target : goal.returns-in-Target
returns-in-Target c = one_gives _ _ _ _ c.in-Target.is c.target.ensures

pub returns-in-Identity : goal.returns-in-Identity
returns-in-Identity c = one_gives _ _ _ _ c.in-Identity.is c.identity.ensures
