use mathlib.Core.Path.{refl}
use Rattle.std.proofs.Common.{rules, ◌≡◌, Some, None, Err}
use Rattle.outcome.specs.declared.Reason.TheVariants.{ValueTooLarge}
use Rattle.reduce_operators.proofs.LanguageLaws.{language_sorted}
use Rattle.reduce_operators.proofs.TranslationLaws.{source_sorted, left_too_long, left_spelt}
use Rattle.reduce_operators.proofs.translations.without_parts.Goals as goal

pub remove-requires : goal.remove-requires
remove-requires c = (source_sorted _ _ _ _ c.requires.0.1, language_sorted _ c.requires.1.0 c.requires.1.1)

pub returns-in_err-n : goal.returns-in_err-n
returns-in_err-n c = λ f m p e.
    let r : c.from_residual.result ≡ Err ValueTooLarge = search rules in
    let n : c.remove.result ≡ None = search rules in
    rw r (left_too_long _ _ _ _ f m p e _ _ _ refl c.remove.ensures _ n)

pub keep_parts-requires : goal.keep_parts-requires
keep_parts-requires c =
    let n : c.remove.result ≡ Some c.in_ok-n.n = search rules in
    ((_, _, left_spelt _ _ _ _ _ _ c.requires.0.1 c.requires.1.1 _ _ _ refl c.remove.ensures _ n c.remove.auto.out), c.requires.2)

pub returns : goal.returns
returns c = λ f m p e.
    let n : c.remove.result ≡ Some c.in_ok-n.n = search rules in
    c.keep_parts.ensures f m (left_spelt _ _ _ _ f m p e _ _ _ refl c.remove.ensures _ n c.remove.auto.out)
