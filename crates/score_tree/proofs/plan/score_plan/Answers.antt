use Rattle.std.proofs.lemmas.Result.{err_from_is_err_and}
use mathlib.Core.Path.{refl, ◌∙◌}
use native.Mathlib.Omega.{arith}
use Rattle.score_tree.proofs.Answering.{zeros_small, ground_there, ground_refused, ground_scored}
use Rattle.score_tree.proofs.plan.score_plan.Goals as goal

pub prepare-requires : goal.prepare-requires
prepare-requires c = (refl, zeros_small 1024)

pub returns-in_err-prepare : goal.returns-in_err-prepare
returns-in_err-prepare c =
    let e = err_from_is_err_and c.from_residual.result c.from_residual.ensures.1 in
    rw (e.1, e.2) (ground_refused _ _ _ _ _ c.prepare.ensures.is c.in_err-prepare.was)

pub overflow_cast-root : goal.overflow_cast-root
overflow_cast-root c = omega (arith, (c.prepare.ensures.held (ground_there c.args.language.now c.args.root c.args.table.now c.prepare.ensures.is c.in_ok-prepare.was).0 (ground_there c.args.language.now c.args.root c.args.table.now c.prepare.ensures.is c.in_ok-prepare.was).1).kind)

pub score_kind-requires : goal.score_kind-requires
score_kind-requires c = ((c.prepare.ensures.held (ground_there c.args.language.now c.args.root c.args.table.now c.prepare.ensures.is c.in_ok-prepare.was).0 (ground_there c.args.language.now c.args.root c.args.table.now c.prepare.ensures.is c.in_ok-prepare.was).1).kind, ((ground_there c.args.language.now c.args.root c.args.table.now c.prepare.ensures.is c.in_ok-prepare.was).0.language, (ground_there c.args.language.now c.args.root c.args.table.now c.prepare.ensures.is c.in_ok-prepare.was).0.table, (c.prepare.ensures.held (ground_there c.args.language.now c.args.root c.args.table.now c.prepare.ensures.is c.in_ok-prepare.was).0 (ground_there c.args.language.now c.args.root c.args.table.now c.prepare.ensures.is c.in_ok-prepare.was).1).held))

pub returns : goal.returns
returns c = (c.score_kind.ensures _ _ (c.prepare.ensures.held (ground_there c.args.language.now c.args.root c.args.table.now c.prepare.ensures.is c.in_ok-prepare.was).0 (ground_there c.args.language.now c.args.root c.args.table.now c.prepare.ensures.is c.in_ok-prepare.was).1).held) ∙ ground_scored _ _ _ _ _ (ground_there c.args.language.now c.args.root c.args.table.now c.prepare.ensures.is c.in_ok-prepare.was).0 (ground_there c.args.language.now c.args.root c.args.table.now c.prepare.ensures.is c.in_ok-prepare.was).1
