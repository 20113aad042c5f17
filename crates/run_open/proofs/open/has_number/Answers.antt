use native.Mathlib.Omega.{arith}
use Rattle.run_open.proofs.Opening.{number_is}
use Rattle.run_open.proofs.open.has_number.Goals as goal

pub returns : goal.returns
returns c = λ f w. number_is f _ w c.requires (omega (arith, c.from-2.ensures)) c.from.ensures c.from-2.ensures
