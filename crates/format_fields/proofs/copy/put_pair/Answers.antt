use Prim.Native.Nat.{◌/◌}
use mathlib.Core.Path.{refl}
use lib.ListN.{length-set}
use native.Mathlib.Omega.{arith}
use Rattle.format_fields.proofs.Splices.{pair_put}
use Rattle.format_fields.proofs.copy.put_pair.Goals as goal

pub bounds-out-n-2 : goal.bounds-out-n-2
bounds-out-n-2 c = let w = c.requires.1 in omega (arith, length-set c.args.out.now c.args.n (c.args.value / 256))

pub returns : goal.returns
returns c = pair_put _ _ _ _ _ c.requires.1 refl refl
