use Rattle.std.proofs.Common.{rules, refl, arith, ◌≡◌, Err}
use Rattle.tree_reader.proofs.Lookup.{zeros}
use Rattle.tree_index.proofs.Checking.{checked_tree, root_small, tree_there}
use Rattle.tree_index.proofs.Building.{index_refused, index_long, index_given}
use Rattle.tree_index.proofs.build.index_checked.Goals as goal

pub check_indexed-requires : goal.check_indexed-requires
check_indexed-requires c = (refl, zeros 8224)

pub returns-in_err-check_indexed : goal.returns-in_err-check_indexed
returns-in_err-check_indexed c =
    let e : c.from_residual.result ≡ Err c.in_err-check_indexed.field-0.0 = search rules in
    rw e (index_refused _ _ _ _ c.check_indexed.ensures.0 c.in_err-check_indexed.was)

pub returns-then-tree-gt-LONGEST : goal.returns-then-tree-gt-LONGEST
returns-then-tree-gt-LONGEST c = index_long _ _ _ _ c.check_indexed.ensures.0 c.in_ok-check_indexed.was c.if-tree-gt-LONGEST.true

pub overflow_cast-root : goal.overflow_cast-root
overflow_cast-root c = omega (arith, root_small _ _ _ c.check_indexed.ensures.0 c.in_ok-check_indexed.was)

pub index_legal-requires : goal.index_legal-requires
index_legal-requires c =
    let t = checked_tree _ _ _ c.check_indexed.ensures.0 c.in_ok-check_indexed.was in
    (c.if-tree-gt-LONGEST.false, (t.language, t.subject, tree_there _ _ _ c.check_indexed.ensures.0 c.in_ok-check_indexed.was _ (λ i. omega (arith, c.type_inv.tree i)) c.check_indexed.ensures.1))

pub returns : goal.returns
returns c =
    let h = tree_there _ _ _ c.check_indexed.ensures.0 c.in_ok-check_indexed.was _ (λ i. omega (arith, c.type_inv.tree i)) c.check_indexed.ensures.1 in
    index_given _ _ _ _ c.check_indexed.ensures.0 c.in_ok-check_indexed.was c.if-tree-gt-LONGEST.false (c.index_legal.ensures _ _ h)
