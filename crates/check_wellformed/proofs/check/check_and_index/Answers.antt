use native.Mathlib.Omega.{arith}
use Rattle.check_wellformed.proofs.Kept.{both_long, first_stays, made_ready}
use Rattle.check_wellformed.proofs.check.check_and_index.Goals as goal

pub check_parted-requires : goal.check_parted-requires
check_parted-requires c = let q = c.put_index.ensures in let v = c.put_index-2.ensures in (omega (arith, both_long _ _ _ _ _ c.requires.0 q.0 q.1 v.0 v.1), (_, made_ready _ _ _ _ _ c.requires.0 q.0 q.1 v.0 v.1 _ _ (λ i. omega (arith, c.type_inv.target i)) c.fill_uses.ensures.0 c.fill_uses.ensures.1 _ c.requires.4.1 c.requires.4.2))

pub returns : goal.returns
returns c = let q = c.put_index.ensures in
    let v = c.put_index-2.ensures in
    let z = made_ready _ _ _ _ _ c.requires.0 q.0 q.1 v.0 v.1 _ _ (λ i. omega (arith, c.type_inv.target i)) c.fill_uses.ensures.0 c.fill_uses.ensures.1 in
    record { is = λ f p h. (c.check_parted.ensures f (z f p h)).0; kept = (both_long _ _ _ _ _ c.requires.0 q.0 q.1 v.0 v.1, first_stays _ _ _ _ _ c.requires.0 q.0 q.1 v.0 v.1, v.0, λ f p h. (c.check_parted.ensures f (z f p h)).1) }
