use mathlib.Core.Path.{sym, ap, ◌∙◌}
use borrow.Author.Rules.{rules}
use mir.Syntax.{w64}
use mir.Val.{SFits}
use mir.Facts.{to_z-of_z}
use Rattle.score_tree.specs.Figures.{is_score}
use Rattle.score_tree.proofs.Plans.{least_out, greatest_out, both_in}
use Rattle.score_tree.proofs.walk.finished.Goals as goal

pub returns-then-not-is_score : goal.returns-then-not-is_score
returns-then-not-is_score c =
    let f : SFits w64 c.args.ends.least = search rules in
    (least_out _ _ _ (ap is_score (sym (to_z-of_z f)) ∙ (sym c.is_score.ensures ∙ c.if-not-is_score.true)), tt)

pub returns-then-not-is_score-2 : goal.returns-then-not-is_score-2
returns-then-not-is_score-2 c =
    let f : SFits w64 c.args.ends.least = search rules in
    let g : SFits w64 c.args.ends.greatest = search rules in
    (greatest_out _ _ _ (ap is_score (sym (to_z-of_z f)) ∙ (sym c.is_score.ensures ∙ c.if-not-is_score.false)) (ap is_score (sym (to_z-of_z g)) ∙ (sym c.is_score-2.ensures ∙ c.if-not-is_score-2.true)), tt)

pub returns : goal.returns
returns c =
    let f : SFits w64 c.args.ends.least = search rules in
    let g : SFits w64 c.args.ends.greatest = search rules in
    both_in _ _ _ (ap is_score (sym (to_z-of_z f)) ∙ (sym c.is_score.ensures ∙ c.if-not-is_score.false)) (ap is_score (sym (to_z-of_z g)) ∙ (sym c.is_score-2.ensures ∙ c.if-not-is_score-2.false))
