use mathlib.Core.Path.{sym, ◌∙◌, refl}
use mathlib.Core.Logic.{inl, inr}
use native.Mathlib.Omega.{arith}
use Rattle.std.proofs.Common.{rules, ◌≡◌, Err}
use Rattle.tree_reader.proofs.Lookup.{zeros}
use Rattle.format_translation.proofs.Accepted.{accepts}
use Rattle.run_open.proofs.Opening.{prepared_as}
use Rattle.run_operation.proofs.Laws.{source_narrow, run_refused, root_past, run_accepted}
use Rattle.run_operation.proofs.run.run_opened.Goals as goal

pub open_translation-requires : goal.open_translation-requires
open_translation-requires c = (zeros 26184, zeros 8200)

pub returns-in_err-open_translation : goal.returns-in_err-open_translation
returns-in_err-open_translation c =
    let r : c.from_residual.result ≡ Err c.in_err-open_translation.field-0.0 = search rules in
    rw r (run_refused _ _ _ _ _ _ (sym c.open_translation.ensures.is ∙ c.in_err-open_translation.was))

pub returns-then-root-gt-LAST_KIND : goal.returns-then-root-gt-LAST_KIND
returns-then-root-gt-LAST_KIND c = let a = accepts _ c.open_translation.ensures.is c.in_ok-open_translation.was in root_past _ _ _ _ _ a.translation a.is (inl c.if-root-gt-LAST_KIND.true)

pub returns-then-number-gt-LAST_NUMBER : goal.returns-then-number-gt-LAST_NUMBER
returns-then-number-gt-LAST_NUMBER c = let a = accepts _ c.open_translation.ensures.is c.in_ok-open_translation.was in root_past _ _ _ _ _ a.translation a.is (inr c.if-number-gt-LAST_NUMBER.true)

pub source_of-requires : goal.source_of-requires
source_of-requires c = let a = accepts _ c.open_translation.ensures.is c.in_ok-open_translation.was in (a.translation, a.is)

pub body_of-requires : goal.body_of-requires
body_of-requires c = let a = accepts _ c.open_translation.ensures.is c.in_ok-open_translation.was in (a.translation, a.is)

pub run_given-requires : goal.run_given-requires
run_given-requires c =
    let a = accepts _ c.open_translation.ensures.is c.in_ok-open_translation.was in
    let w = c.open_translation.ensures.kept a.translation a.is in (
      omega (arith, c.if-root-gt-LAST_KIND.false),
      (
        _,
        a.translation,
        record {
          prepared = prepared_as c.source_of.ensures c.body_of.ensures w.0;
          source = source_narrow _ c.source_of.ensures (λ i. omega (arith, c.type_inv.translation i));
          tree = λ i. omega (arith, c.type_inv.tree i);
        },
        w.1,
      ),
    )

pub returns : goal.returns
returns c =
    let a = accepts _ c.open_translation.ensures.is c.in_ok-open_translation.was in
    let w = c.open_translation.ensures.kept a.translation a.is in
    run_accepted _ _ _ _ _ a.translation a.is _ _ _ refl refl refl (c.run_given.ensures _ a.translation record {
      prepared = prepared_as c.source_of.ensures c.body_of.ensures w.0;
      source = source_narrow _ c.source_of.ensures (λ i. omega (arith, c.type_inv.translation i));
      tree = λ i. omega (arith, c.type_inv.tree i);
    } w.1)
