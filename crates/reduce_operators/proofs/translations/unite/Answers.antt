use mathlib.Core.Path.{refl}
use Rattle.std.proofs.Common.{rules, ◌≡◌, Some, None, Err}
use Rattle.outcome.specs.declared.Reason.TheVariants.{ValueTooLarge}
use Rattle.reduce_operators.proofs.TranslationLaws.{source_sorted, target_sorted, body_sorted, source_too_long, target_too_long, body_too_long, united_given}
use Rattle.reduce_operators.proofs.translations.unite.Goals as goal

pub merge-requires : goal.merge-requires
merge-requires c = (source_sorted _ _ _ _ c.requires.0.1, source_sorted _ _ _ _ c.requires.1.1)

pub returns-in_err-i : goal.returns-in_err-i
returns-in_err-i c = λ f g p q h.
    let r : c.from_residual.result ≡ Err ValueTooLarge = search rules in
    let n : c.merge.result ≡ None = search rules in
    rw r (source_too_long _ _ _ _ _ _ f g p q _ _ _ _ n refl c.merge.ensures)

pub merge-requires-2 : goal.merge-requires-2
merge-requires-2 c = (target_sorted _ _ _ _ c.requires.0.1, target_sorted _ _ _ _ c.requires.1.1)

pub returns-in_err-j : goal.returns-in_err-j
returns-in_err-j c = λ f g p q h.
    let r : c.from_residual-in_err-j.result ≡ Err ValueTooLarge = search rules in
    let n : c.merge-2.result ≡ None = search rules in
    rw r (target_too_long _ _ _ _ _ _ f g p q _ _ _ _ n refl c.merge-2.ensures)

pub merge-requires-3 : goal.merge-requires-3
merge-requires-3 c = (body_sorted _ _ _ _ c.requires.0.1, body_sorted _ _ _ _ c.requires.1.1)

pub returns-in_err-k : goal.returns-in_err-k
returns-in_err-k c = λ f g p q h.
    let r : c.from_residual-in_err-k.result ≡ Err ValueTooLarge = search rules in
    let n : c.merge-3.result ≡ None = search rules in
    rw r (body_too_long _ _ _ _ _ _ f g p q _ _ _ _ n refl c.merge-3.ensures)

pub returns : goal.returns
returns c = λ f g p q h.
    let i : c.merge.result ≡ Some c.in_ok-i.i = search rules in
    let j : c.merge-2.result ≡ Some c.in_ok-j.j = search rules in
    let k : c.merge-3.result ≡ Some c.in_ok-k.k = search rules in
    united_given _ _ _ _ _ _ f g p q h _ _ _ _ _ _ _ _ _ _ _ _ refl c.merge.ensures i refl c.merge-2.ensures j c.merge-3.ensures k _ _ _ c.assemble.ensures
