use Rattle.std.proofs.lemmas.Result.{err_from_is_err_and}
use mathlib.Core.Path.{refl}
use mathlib.Core.List.{[]}
use Rattle.score_tree.proofs.Answering.{zeros_small}
use Rattle.score_join.proofs.Answering.{rising_target, table_refused, the_table, table_is, table_joined}
use Rattle.score_join.proofs.join.join_plain.Goals as goal

pub read_table-requires : goal.read_table-requires
read_table-requires c = (rising_target _ _ _ c.requires.1.0 c.requires.1.1, c.requires.1.1.pieces.target_short, refl, zeros_small 1024)

pub returns-in_err-read_table : goal.returns-in_err-read_table
returns-in_err-read_table c = λ f z n.
    let e = err_from_is_err_and c.from_residual.result c.from_residual.ensures.1 in
    rw (e.1, e.2) (table_refused f _ _ (c.read_table.ensures.is f.target z.pieces.target) c.in_err-read_table.was)

pub join_held-requires : goal.join_held-requires
join_held-requires c = (c.requires.0, (c.requires.1.0, the_table c.requires.1.0 _ [] (c.read_table.ensures.is c.requires.1.0.target c.requires.1.1.pieces.target) c.in_ok-read_table.was, c.requires.1.1, c.requires.1.2, c.read_table.ensures.kept _ _ c.requires.1.1.pieces.target (table_is c.requires.1.0 _ [] (c.read_table.ensures.is c.requires.1.0.target c.requires.1.1.pieces.target) c.in_ok-read_table.was)))

pub returns : goal.returns
returns c = λ f z n. table_joined f _ _ (c.read_table.ensures.is f.target z.pieces.target) c.in_ok-read_table.was (c.join_held.ensures f _ z n (c.read_table.ensures.kept _ _ z.pieces.target (table_is f _ _ (c.read_table.ensures.is f.target z.pieces.target) c.in_ok-read_table.was)))
