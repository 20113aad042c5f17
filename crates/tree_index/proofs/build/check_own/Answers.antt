use Rattle.std.proofs.Common.{rules, arith, ◌≡◌, Err}
use Rattle.tree_index.proofs.Checking.{checked_tree, root_small, tree_there}
use Rattle.tree_index.proofs.Owning.{own_refused, own_long, own_other, own_accepted}
use Rattle.tree_index.proofs.build.check_own.Goals as goal
use Rattle.tree_index.proofs.build.check_own.Goals.{then-tree-gt-LONGEST-via-then-tree-gt-LONGEST, then-tree-gt-LONGEST-via-else-tree-gt-LONGEST+then-not-is_own}

pub returns-in_err-check_indexed : goal.returns-in_err-check_indexed
returns-in_err-check_indexed c =
    let e : c.from_residual.result ≡ Err c.in_err-check_indexed.field-0.0 = search rules in
    rw e (own_refused _ _ _ _ c.check_indexed.ensures.0 c.in_err-check_indexed.was, λ n l q k. absurd cc)

pub overflow_cast-root : goal.overflow_cast-root
overflow_cast-root c = omega (arith, root_small _ _ _ c.check_indexed.ensures.0 c.in_ok-check_indexed.was)

pub is_own-requires : goal.is_own-requires
is_own-requires c =
    let t = checked_tree _ _ _ c.check_indexed.ensures.0 c.in_ok-check_indexed.was in
    (c.if-tree-gt-LONGEST.false, (t.language, t.subject, tree_there _ _ _ c.check_indexed.ensures.0 c.in_ok-check_indexed.was _ (λ i. omega (arith, c.type_inv.tree i)) c.check_indexed.ensures.1))

pub returns-then-tree-gt-LONGEST : goal.returns-then-tree-gt-LONGEST
returns-then-tree-gt-LONGEST c =
    let h = tree_there _ _ _ c.check_indexed.ensures.0 c.in_ok-check_indexed.was _ (λ i. omega (arith, c.type_inv.tree i)) c.check_indexed.ensures.1 in (
      elim c.then-tree-gt-LONGEST.branch [
        | then-tree-gt-LONGEST-via-then-tree-gt-LONGEST w ↦ own_long _ _ _ _ c.check_indexed.ensures.0 c.in_ok-check_indexed.was w.if-tree-gt-LONGEST.true
        | then-tree-gt-LONGEST-via-else-tree-gt-LONGEST+then-not-is_own w ↦ own_other _ _ _ _ c.check_indexed.ensures.0 c.in_ok-check_indexed.was w.if-tree-gt-LONGEST.false (rw w.if-not-is_own.true at (w.is_own.ensures _ _ h))
      ],
      λ n l q k. absurd cc,
    )

pub returns : goal.returns
returns c =
    let h = tree_there _ _ _ c.check_indexed.ensures.0 c.in_ok-check_indexed.was _ (λ i. omega (arith, c.type_inv.tree i)) c.check_indexed.ensures.1 in
    (own_accepted _ _ _ _ c.check_indexed.ensures.0 c.in_ok-check_indexed.was c.if-tree-gt-LONGEST.false (rw c.if-not-is_own.false at (c.is_own.ensures _ _ h)), λ n l q e. c.check_indexed.ensures.1 _ l c.in_ok-check_indexed.was e)
