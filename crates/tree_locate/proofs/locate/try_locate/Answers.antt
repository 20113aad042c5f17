use Rattle.std.proofs.Common.{arith, refl}
use Rattle.std.proofs.lemmas.Result.{err_from_is_err_and}
use Rattle.tree_reader.proofs.Lookup.{zeros}
use Rattle.check_operations.proofs.Opening.{opened_language, opened_ready}
use Rattle.tree_locate.proofs.Answers.{located_refused, located_read}
use Rattle.tree_locate.proofs.locate.try_locate.Goals as goal

pub open_language-requires : goal.open_language-requires
open_language-requires c = (refl, zeros 8224)

pub returns-in_err-open_language : goal.returns-in_err-open_language
returns-in_err-open_language c =
    let p = err_from_is_err_and c.from_residual.result c.from_residual.ensures.1 in
    rw (p.1, p.2) (located_refused _ _ _ c.open_language.ensures.is c.in_err-open_language.was)

pub overflow_cast-root : goal.overflow_cast-root
overflow_cast-root c =
    let o = opened_language _ _ c.open_language.ensures.is c.in_ok-open_language.was in omega (arith, (c.open_language.ensures.opened o.0 o.1).kind)

pub locate_in-requires : goal.locate_in-requires
locate_in-requires c =
    let o = opened_language _ _ c.open_language.ensures.is c.in_ok-open_language.was in opened_ready _ _ _ _ (c.open_language.ensures.opened o.0 o.1) _

pub returns : goal.returns
returns c =
    let o = opened_language _ _ c.open_language.ensures.is c.in_ok-open_language.was in
    located_read _ _ _ o.0 o.1 (c.locate_in.ensures o.0 (c.open_language.ensures.opened o.0 o.1).alone.indexed)
