use mathlib.Core.Path.{sym, ap, ◌∙◌}
use Rattle.std.proofs.Common.{rules, ◌≡◌, Err}
use Rattle.format_card.proofs.Refusals.{as_file, with_card_refused}
use Rattle.format_card.specs.Inner.Sets.{lowest_of}
use Rattle.format_card.proofs.lowest.with_card.Goals as goal
use Rattle.format_card.proofs.lowest.with_card.Goals.{in-Ok, in-Err}

pub returns-in_err-lowest : goal.returns-in_err-lowest
returns-in_err-lowest c =
    let r : c.from_residual.result ≡ Err c.in_err-lowest.field-0.0 = search rules in
    let e : c.match-card.second ≡ as_file c.args.card = elim c.match-card.branch [
      | in-Ok w ↦ w.second-is ∙ ap as_file (sym w.in-Ok.is)
      | in-Err w ↦ w.second-is ∙ ap as_file (sym w.in-Err.is)
    ] in
    rw r (with_card_refused c.args.first c.args.card (ap (λ d. lowest_of c.args.first d) (sym e) ∙ (sym c.lowest.ensures ∙ c.in_err-lowest.was)))
