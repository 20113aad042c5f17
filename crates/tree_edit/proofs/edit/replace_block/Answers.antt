use Rattle.std.proofs.Common.{rules, arith, ◌≡◌, Err}
use Rattle.tree_reader.specs.Inner.Positions.{refusal_of}
use Rattle.tree_edit.proofs.Planning.{block_ready, done_is, block_left, block_replaces, block_given, block_refused}
use Rattle.tree_edit.proofs.edit.replace_block.Goals as goal

pub read_tree-requires : goal.read_tree-requires
read_tree-requires c = block_ready c.requires.5 _

pub returns-in_err-e : goal.returns-in_err-e
returns-in_err-e c = λ path kind l t a w.
    let r : c.from_residual.result ≡ Err (refusal_of c.in_err-e.field-0.0) = search rules in
    rw r (block_refused w _ c.saturating_sub-levels.ensures _ (c.read_tree.ensures.is l w.index_of.indexed) c.args.plan.now c.args.plan_index.now _ c.in_err-e.was)

pub returns-then-e-block : goal.returns-then-e-block
returns-then-e-block c = λ path kind l t a w. block_left w _ c.saturating_sub-levels.ensures _ (c.read_tree.ensures.is l w.index_of.indexed) c.in_ok-e.was c.read_tree.ensures.within c.args.plan.now c.args.plan_index.now c.if-e-block.true

pub replace-requires : goal.replace-requires
replace-requires c =
    let l = c.requires.2 in
    let w = c.requires.5 in (
      c.requires.0,
      c.requires.1,
      l,
      c.requires.3,
      c.requires.4,
      (done_is w _ c.saturating_sub-levels.ensures _ (c.read_tree.ensures.is l w.index_of.indexed) c.in_ok-e.was c.read_tree.ensures.within).0,
      block_replaces w _ c.saturating_sub-levels.ensures _ (c.read_tree.ensures.is l w.index_of.indexed) c.in_ok-e.was c.read_tree.ensures.within c.if-e-block.false (λ j. omega (arith, c.type_inv.block j)),
    )

pub returns : goal.returns
returns c = λ path kind l t a w.
    let new = block_replaces w _ c.saturating_sub-levels.ensures _ (c.read_tree.ensures.is l w.index_of.indexed) c.in_ok-e.was c.read_tree.ensures.within c.if-e-block.false (λ j. omega (arith, c.type_inv.block j)) in
    block_given w _ c.saturating_sub-levels.ensures _ (c.read_tree.ensures.is l w.index_of.indexed) c.in_ok-e.was c.read_tree.ensures.within c.if-e-block.false c.args.plan.now c.args.plan_index.now _ (c.replace.ensures path kind l t a _ new)
