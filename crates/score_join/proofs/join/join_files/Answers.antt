use Rattle.std.proofs.lemmas.Result.{err_from_is_err_and}
use mathlib.Core.List.{[]}
use mathlib.Core.Path.{refl}
use Rattle.tree_reader.proofs.Lookup.{zeros}
use Rattle.format_translation.proofs.Accepted.{accepts}
use Rattle.score_join.proofs.Answering.{join_refused, parts_checked, behind, join_accepted}
use Rattle.score_join.proofs.join.join_files.Goals as goal

pub check_kept-requires : goal.check_kept-requires
check_kept-requires c = (refl, zeros 16448, refl, zeros 8200)

pub returns-in_err-check_kept : goal.returns-in_err-check_kept
returns-in_err-check_kept c =
    let e = err_from_is_err_and c.from_residual.result c.from_residual.ensures.1 in
    rw (e.1, e.2) (join_refused _ _ _ _ _ c.check_kept.ensures.is c.in_err-check_kept.was)

pub source_of-requires : goal.source_of-requires
source_of-requires c = let a = accepts _ c.check_kept.ensures.is c.in_ok-check_kept.was in (a.translation, a.is)

pub target_of-requires : goal.target_of-requires
target_of-requires c = let a = accepts _ c.check_kept.ensures.is c.in_ok-check_kept.was in (a.translation, a.is)

pub body_of-requires : goal.body_of-requires
body_of-requires c = let a = accepts _ c.check_kept.ensures.is c.in_ok-check_kept.was in (a.translation, a.is)

pub join_parts-requires : goal.join_parts-requires
join_parts-requires c = let a = accepts _ c.check_kept.ensures.is c.in_ok-check_kept.was in (behind c.check_kept.ensures.kept.0 (c.check_kept.ensures.kept.1 a.translation a.is).1 c.target_of.ensures, (a.translation, (parts_checked _ [] [] a.translation a.is c.source_of.ensures c.target_of.ensures c.body_of.ensures)))

pub returns : goal.returns
returns c = let a = accepts _ c.check_kept.ensures.is c.in_ok-check_kept.was in join_accepted _ _ _ a.translation a.is (c.join_parts.ensures a.translation (parts_checked _ [] [] a.translation a.is c.source_of.ensures c.target_of.ensures c.body_of.ensures))
