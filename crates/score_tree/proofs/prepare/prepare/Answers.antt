use Rattle.std.proofs.lemmas.Result.{err_from_is_err_and}
use mathlib.Core.List.{[]}
use Rattle.check_operations.proofs.Opening.{accepts}
use Rattle.score_tree.proofs.Answering.{language_refused, none_held, rising_entries, table_refused, root_out, ground_accepted, ground_held}
use Rattle.score_tree.proofs.prepare.prepare.Goals as goal

pub returns-in_err-check_language : goal.returns-in_err-check_language
returns-in_err-check_language c =
    let r = err_from_is_err_and c.from_residual.result c.from_residual.ensures.1 in
    let e = language_refused c.args.language.now c.args.root c.args.table.now c.check_language.ensures c.in_err-check_language.was in
    rw (r.1, r.2) (record { is = e; held = none_held _ _ _ e })

pub read_table-requires : goal.read_table-requires
read_table-requires c = (rising_entries _ 0 [] (accepts _ c.check_language.ensures c.in_ok-check_language.was), (accepts _ c.check_language.ensures c.in_ok-check_language.was).short, c.requires.0, c.requires.1)

pub returns-in_err-read_table : goal.returns-in_err-read_table
returns-in_err-read_table c =
    let r = err_from_is_err_and c.from_residual-in_err-read_table.result c.from_residual-in_err-read_table.ensures.1 in
    let a = accepts _ c.check_language.ensures c.in_ok-check_language.was in
    let e = table_refused c.args.language.now c.args.root c.args.table.now a (c.read_table.ensures.is _ a.entries) c.in_err-read_table.was in
    rw (r.1, r.2) (record { is = e; held = none_held _ _ _ e })

pub is_root-requires : goal.is_root-requires
is_root-requires c = ((accepts _ c.check_language.ensures c.in_ok-check_language.was).language, (accepts _ c.check_language.ensures c.in_ok-check_language.was).entries)

pub returns-then-not-is_root : goal.returns-then-not-is_root
returns-then-not-is_root c = let e = root_out c.args.language.now c.args.root c.args.table.now (accepts _ c.check_language.ensures c.in_ok-check_language.was) (c.read_table.ensures.is _ (accepts _ c.check_language.ensures c.in_ok-check_language.was).entries) c.in_ok-read_table.was (c.is_root.ensures _ (accepts _ c.check_language.ensures c.in_ok-check_language.was).entries) (c.if-not-is_root.true) in record { is = e; held = none_held _ _ _ e }

pub returns : goal.returns
returns c = record { is = ground_accepted c.args.language.now c.args.root c.args.table.now (accepts _ c.check_language.ensures c.in_ok-check_language.was) (c.read_table.ensures.is _ (accepts _ c.check_language.ensures c.in_ok-check_language.was).entries) c.in_ok-read_table.was (c.is_root.ensures _ (accepts _ c.check_language.ensures c.in_ok-check_language.was).entries) (c.if-not-is_root.false); held = ground_held _ _ _ (accepts _ c.check_language.ensures c.in_ok-check_language.was) (c.read_table.ensures.is _ (accepts _ c.check_language.ensures c.in_ok-check_language.was).entries) c.in_ok-read_table.was (c.is_root.ensures _ (accepts _ c.check_language.ensures c.in_ok-check_language.was).entries) (c.if-not-is_root.false) _ c.read_table.ensures.kept }
