use Rattle.std.proofs.Common.{rules, arith, ◌≡◌, Err}
use Rattle.check_operations.proofs.Opening.{unaccepted, opened_language, opened_ready}
use Rattle.check_operations.proofs.TreeChain.{tree_refused, tree_read_lem, tree_indexed}
use Rattle.check_operations.proofs.trees.check_indexed.Goals as goal

pub returns-in_err-open_language : goal.returns-in_err-open_language
returns-in_err-open_language c =
    let r : c.from_residual.result ≡ Err c.in_err-open_language.field-0.0 = search rules in
    (tree_refused _ _ _ c.open_language.ensures.is c.in_err-open_language.was r, λ n l h. unaccepted r h)

pub overflow_cast-root : goal.overflow_cast-root
overflow_cast-root c = let o = opened_language _ _ c.open_language.ensures.is c.in_ok-open_language.was in omega (arith, (c.open_language.ensures.opened o.0 o.1).kind)

pub read_tree-read-requires : goal.read_tree-read-requires
read_tree-read-requires c = let o = opened_language _ _ c.open_language.ensures.is c.in_ok-open_language.was in opened_ready _ _ _ _ (c.open_language.ensures.opened o.0 o.1) _

pub returns : goal.returns
returns c =
    let o = opened_language _ _ c.open_language.ensures.is c.in_ok-open_language.was in
    let opened = c.open_language.ensures.opened o.0 o.1 in
    (tree_read_lem _ _ _ o.0 o.1 c.read_tree-read.result (c.read_tree-read.ensures.is o.0 opened.alone.indexed) c.read_tree-read.ensures.within c.whole_tree.ensures, λ n l h e. tree_indexed _ _ _ o.0 l opened e)
