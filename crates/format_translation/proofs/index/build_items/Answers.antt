use native.Mathlib.Omega.{arith}
use Rattle.format_translation.proofs.IndexedItems.{build_is}
use Rattle.format_translation.proofs.index.build_items.Goals as goal

pub returns : goal.returns
returns c = λ b e. build_is _ _ (λ i. omega (arith, c.type_inv.body i)) c.requires.0 c.requires.2 b e c.requires.1 c.put_all.ensures
