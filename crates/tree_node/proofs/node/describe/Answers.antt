use Rattle.std.proofs.Common.{rules, refl, arith, ◌≡◌, Err}
use Rattle.tree_reader.proofs.Lookup.{zeros}
use Rattle.tree_block.proofs.Answers.{owned, root_small, tree_along}
use Rattle.tree_node.proofs.Answers.{describe_refused, describe_found}
use Rattle.tree_node.proofs.node.describe.Goals as goal

pub check_own-requires : goal.check_own-requires
check_own-requires c = (refl, zeros 8224)

pub returns-in_err-check_own : goal.returns-in_err-check_own
returns-in_err-check_own c =
    let e : c.from_residual.result ≡ Err c.in_err-check_own.field-0.0 = search rules in
    rw e (describe_refused _ _ _ _ c.check_own.ensures.0 _ c.in_err-check_own.was)

pub overflow_cast-root : goal.overflow_cast-root
overflow_cast-root c = omega (arith, root_small _ _ _ _ c.check_own.ensures.0 c.in_ok-check_own.was)

pub node_in-requires : goal.node_in-requires
node_in-requires c =
    let o = owned _ _ _ _ c.check_own.ensures.0 c.in_ok-check_own.was in
    (o.language, o.subject, tree_along _ _ _ _ c.check_own.ensures.0 c.in_ok-check_own.was _ (λ j. omega (arith, c.type_inv.tree j)) c.check_own.ensures.1)

pub returns : goal.returns
returns c =
    let h = tree_along _ _ _ _ c.check_own.ensures.0 c.in_ok-check_own.was _ (λ j. omega (arith, c.type_inv.tree j)) c.check_own.ensures.1 in
    describe_found _ _ _ _ c.check_own.ensures.0 _ c.in_ok-check_own.was _ (c.node_in.ensures _ _ h)
