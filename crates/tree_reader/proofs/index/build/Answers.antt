use native.Mathlib.Omega.{arith}
use Rattle.tree_reader.proofs.Indexed.{build_is}
use Rattle.tree_reader.proofs.index.build.Goals as goal

pub returns : goal.returns
returns c = λ l e. build_is _ _ (λ i. omega (arith, c.type_inv.language i)) c.requires.0 c.requires.1 c.requires.2 l e c.put_all.ensures
