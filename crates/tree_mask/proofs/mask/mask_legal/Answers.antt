use Rattle.std.proofs.Common.{arith}
use Rattle.tree_mask.proofs.Answers.{legal_room, legal_long, legal_done}
use Rattle.tree_mask.proofs.mask.mask_legal.Goals as goal

pub returns-then-tree-output : goal.returns-then-tree-output
returns-then-tree-output c = legal_room c.args.language.now c.args.index.now c.args.seen c.args.kind c.args.tree.now c.args.output.now (λ i. omega (arith, c.type_inv.tree i)) c.if-tree-output.true c.mask_tree.ensures

pub returns-then-output-length : goal.returns-then-output-length
returns-then-output-length c = legal_long c.args.language.now c.args.index.now c.args.seen c.args.kind c.args.tree.now c.args.output.now c.mask_tree-length.ensures c.if-output-length.true

pub returns : goal.returns
returns c = legal_done c.args.language.now c.args.index.now c.args.seen c.args.kind c.args.tree.now c.args.output.now c.mask_tree-length.ensures c.if-output-length.false c.mask_tree-2.ensures
