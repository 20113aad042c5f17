use Rattle.std.proofs.Common.{rules, ◌≡◌, Err}
use Rattle.tree_reader.specs.Inner.Positions.{refusal_of}
use Rattle.tree_mask.proofs.Answers.{read_refused, read_left, read_whole}
use Rattle.tree_mask.proofs.mask.mask_read.Goals as goal

pub returns-in_err-e : goal.returns-in_err-e
returns-in_err-e c =
    let r : c.from_residual.result ≡ Err (refusal_of c.in_err-e.field-0.0) = search rules in
    rw r (read_refused c.args.language.now c.args.index.now c.args.seen c.args.kind c.args.tree.now c.args.output.now c.read_tree.ensures.is _ c.in_err-e.was)

pub returns-then-e-tree : goal.returns-then-e-tree
returns-then-e-tree c = read_left c.args.language.now c.args.index.now c.args.seen c.args.kind c.args.tree.now c.args.output.now c.read_tree.ensures.is c.in_ok-e.was (rw c.in_ok-e.was at c.read_tree.ensures.within) c.if-e-tree.true

pub returns : goal.returns
returns c = read_whole c.args.language.now c.args.index.now c.args.seen c.args.kind c.args.tree.now c.args.output.now c.read_tree.ensures.is c.in_ok-e.was c.if-e-tree.false c.mask_legal.ensures
