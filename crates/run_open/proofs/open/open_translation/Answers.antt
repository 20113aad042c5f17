use mathlib.Core.Path.{refl}
use native.Mathlib.Omega.{arith}
use lib.Seq.{length-take-le}
use Rattle.format_translation.proofs.Accepted.{accepts}
use Rattle.run_open.proofs.Opening.{refused_none, accepted_is, begun_as, into_prepared, parts_checked, part_zero, front_begun}
use Rattle.run_open.proofs.open.open_translation.Goals as goal

pub check_kept-requires : goal.check_kept-requires
check_kept-requires c =
    (length-take-le 16448 c.args.table.now (omega arith), part_zero 16448 c.args.table.now c.requires.0, c.told-uses, c.requires.1)

pub returns-in_err-check_kept-clause-kept : goal.returns-in_err-check_kept-clause-kept
returns-in_err-check_kept-clause-kept c = λ f e. refused_none _ f e _ _ c.check_kept.ensures.is c.in_err-check_kept.was

pub source_of-requires : goal.source_of-requires
source_of-requires c = let a = accepts _ c.check_kept.ensures.is c.in_ok-check_kept.was in (a.translation, a.is)

pub target_of-requires : goal.target_of-requires
target_of-requires c = let a = accepts _ c.check_kept.ensures.is c.in_ok-check_kept.was in (a.translation, a.is)

pub body_of-requires : goal.body_of-requires
body_of-requires c = let a = accepts _ c.check_kept.ensures.is c.in_ok-check_kept.was in (a.translation, a.is)

pub prepare-requires : goal.prepare-requires
prepare-requires c =
    let a = accepts _ c.check_kept.ensures.is c.in_ok-check_kept.was in
    let w = c.check_kept.ensures.kept.1 a.translation a.is in (
      begun_as c.source_of.ensures c.target_of.ensures (front_begun _ _ c.args.table.now _ c.told-table c.requires.0 c.check_kept.ensures.kept.0 w.0 w.1),
      (a.translation, parts_checked _ a.translation a.is c.source_of.ensures c.target_of.ensures c.body_of.ensures),
    )

pub returns-clause-is : goal.returns-clause-is
returns-clause-is c =
    let a = accepts _ c.check_kept.ensures.is c.in_ok-check_kept.was in accepted_is _ a.translation a.is refl

pub returns-clause-kept : goal.returns-clause-kept
returns-clause-kept c = λ f e.
    let m = (c.check_kept.ensures.kept.1 f e).2 in
    (into_prepared _ f e c.source_of.ensures c.prepare.ensures.0 (c.prepare.ensures.1 f (parts_checked _ f e c.source_of.ensures c.target_of.ensures c.body_of.ensures) m), m)
