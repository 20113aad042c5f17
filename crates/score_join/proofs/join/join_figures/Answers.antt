use Prim.Native.Nat.{◌<◌, ◌≤◌}
use mathlib.Core.Path.{refl, sym, ◌∙◌}
use native.Mathlib.Omega.{arith}
use Rattle.std.proofs.lemmas.List.{length-take}
use Rattle.score_join.proofs.Places.{row_out, row_read}
use Rattle.score_join.proofs.Puts.{written_long}
use Rattle.score_join.proofs.Joins.{figure_begin, figure_room, figure_outside, figure_next, figure_end, puts_outside}
use Rattle.score_join.proofs.join.join_figures.Goals as goal

pub returns-in_err-form_at : goal.returns-in_err-form_at
returns-in_err-form_at c = λ l given w u a. rw c.from_residual.ensures (puts_outside (row_out (c.form_at.ensures l given w u a) c.in_err-form_at.was))

pub loop-z-init : goal.loop-z-init
loop-z-init c = (refl, λ l given w u a. figure_begin w u _ _ _ (omega (arith, c.requires.0)))

pub returns-then-not-is_figure : goal.returns-then-not-is_figure
returns-then-not-is_figure c = λ l given w u a.
    let j : c.loop-z.z-index < c.args.count = omega (arith, c.loop-z-test.true, length-take c.args.count c.form_at.new.sum) in
    let d = c.form_at.ensures l given w u a in
    puts_outside (figure_outside (c.loop-z.invariant.1 l given w u a) d _ c.in_ok-form_at.was j _ (row_read d _ c.in_ok-form_at.was _ j) (sym c.is_figure.ensures ∙ c.if-not-is_figure.true))

pub put_figure-to-requires : goal.put_figure-to-requires
put_figure-to-requires c =
    let j : c.loop-z.z-index < c.args.count = omega (arith, c.loop-z-test.true, length-take c.args.count c.form_at.new.sum) in
    let r = figure_room (c.loop-z.invariant.1 _ _ _ _ c.requires.3.4) c.requires.0 j in
    (sym c.is_figure.ensures ∙ c.if-not-is_figure.false, r.0)

pub loop-z-preserved : goal.loop-z-preserved
loop-z-preserved c =
    let j : c.loop-z.z-index < c.args.count = omega (arith, c.loop-z-test.true, length-take c.args.count c.form_at.new.sum) in (
      written_long _ _ _ _ _ c.put_figure-to.ensures ∙ c.loop-z.invariant.0,
      λ l given w u a.
          let d = c.form_at.ensures l given w u a in
          figure_next (c.loop-z.invariant.1 l given w u a) d _ c.in_ok-form_at.was j _ (row_read d _ c.in_ok-form_at.was _ j) (sym c.is_figure.ensures ∙ c.if-not-is_figure.false) _ _ c.put_figure-to.ensures,
    )

pub returns : goal.returns
returns c = λ l given w u a.
    let j : c.args.count ≤ c.loop-z.z-index = omega (arith, c.requires.2, c.loop-z-test.false, c.form_at.array_long, length-take c.args.count c.form_at.new.sum) in
    figure_end (c.loop-z.invariant.1 l given w u a) j
