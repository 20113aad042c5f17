use Rattle.std.proofs.Common.{rules, ◌≡◌, Err, refl, arith}
use Rattle.tree_reader.proofs.Lookup.{zeros}
use Rattle.check_operations.proofs.Opening.{opened_language, opened_not, opened_ready}
use Rattle.xml_operations.proofs.Whole.{import_refused, import_done}
use Rattle.xml_operations.proofs.operations.import_opened.Goals as goal

pub open_language-requires : goal.open_language-requires
open_language-requires c = (refl, zeros 8224)

pub returns-in_err-open_language : goal.returns-in_err-open_language
returns-in_err-open_language c =
    let r : c.from_residual.result ≡ Err c.in_err-open_language.field-0.0 = search rules in
    import_refused _ _ _ _ (opened_not _ _ c.open_language.ensures.is c.in_err-open_language.was) r

pub overflow_cast-root : goal.overflow_cast-root
overflow_cast-root c =
    let o = opened_language _ _ c.open_language.ensures.is c.in_ok-open_language.was in
    omega (arith, (c.open_language.ensures.opened o.0 o.1).kind)

pub import_text-requires : goal.import_text-requires
import_text-requires c =
    let o = opened_language _ _ c.open_language.ensures.is c.in_ok-open_language.was in
    let w = c.open_language.ensures.opened o.0 o.1 in
    opened_ready _ _ _ _ w _

pub returns : goal.returns
returns c =
    let o = opened_language _ _ c.open_language.ensures.is c.in_ok-open_language.was in
    import_done _ _ _ _ o.0 o.1 _ _ (c.open_language.ensures.opened o.0 o.1).alone.indexed c.import_text.ensures
