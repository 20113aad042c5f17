use native.Mathlib.Omega.{arith}
use Rattle.std.proofs.Common.{rules, ◌≡◌, Err}
use Rattle.reduce_operators.proofs.Accepted.{language_short}
use Rattle.reduce_operators.proofs.Making.{made_pieces, made_rises, make_refused, make_given}
use Rattle.reduce_operators.proofs.make.make.Goals as goal

pub check_well_formed-requires : goal.check_well_formed-requires
check_well_formed-requires c = (_, made_pieces _ _ _ _ _ _ c.requires.0.1 c.requires.1.1 c.requires.2.1 c.requires.3, made_rises _ _ _ _ _ _ c.requires.0.1 c.requires.1.1 c.requires.2.1 c.requires.2.2)

pub returns-in_err-check_well_formed : goal.returns-in_err-check_well_formed
returns-in_err-check_well_formed c = λ l m b d e f g.
    let r : c.from_residual.result ≡ Err c.in_err-check_well_formed.field-0.0 = search rules in
    rw r (make_refused _ _ _ l m b d e f _ (c.check_well_formed.ensures _ (made_pieces _ _ _ l m b d e f c.requires.3) (made_rises _ _ _ l m b d e f g)) _ c.in_err-check_well_formed.was _)

pub assemble-requires : goal.assemble-requires
assemble-requires c = (language_short _ c.requires.0.0 c.requires.0.1, language_short _ c.requires.1.0 c.requires.1.1, c.requires.4)

pub returns : goal.returns
returns c = λ l m b d e f g. make_given _ _ _ l m b d e f _ (c.check_well_formed.ensures _ (made_pieces _ _ _ l m b d e f c.requires.3) (made_rises _ _ _ l m b d e f g)) g (λ i. omega (arith, c.type_inv.body i)) _ c.in_ok-check_well_formed.was _ _ _ c.assemble.ensures
