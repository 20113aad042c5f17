use mathlib.Core.Path.{refl}
use Rattle.std.proofs.Common.{rules, ◌≡◌, Some, None, Err}
use Rattle.outcome.specs.declared.Reason.TheVariants.{ValueTooLarge}
use Rattle.reduce_operators.proofs.Given.{stored_first}
use Rattle.reduce_join.proofs.Joined.{spelt_held, source_within, target_within, fitting_full}
use Rattle.reduce_join.proofs.join.join_fitting.Goals as goal

pub returns-in_err-n : goal.returns-in_err-n
returns-in_err-n c = λ f g w.
    let r : c.from_residual.result ≡ Err ValueTooLarge = search rules in
    let n : c.join_body.result ≡ None = search rules in
    rw r (fitting_full _ _ _ _ _ f g w _ _ _ _ refl (c.join_body.ensures f g w) n)

pub finish-requires : goal.finish-requires
finish-requires c = (source_within _ _ _ _ c.requires.1.2.second.1, target_within _ _ _ _ c.requires.1.2.first, c.requires.0)

pub returns : goal.returns
returns c = λ f g w.
    let n : c.join_body.result ≡ Some c.in_ok-n.n = search rules in
    c.finish.ensures f g (spelt_held _ _ _ f w.first) (spelt_held _ _ _ g w.second.1) w.fits w.first_low w.second_low w.second.1.source w.first.target (stored_first _ _ _ _ _ (c.join_body.ensures f g w) n)
