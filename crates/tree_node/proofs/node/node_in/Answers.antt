use Rattle.std.proofs.Common.{rules, ap, ◌≡◌, Err}
use Rattle.tree_block.specs.Blocks.{every_kind}
use Rattle.tree_block.proofs.Paths.{every_kind_lem}
use Rattle.tree_node.specs.Operations.{node_shown}
use Rattle.tree_node.proofs.node.node_in.Goals as goal

pub returns-in_err-block : goal.returns-in_err-block
returns-in_err-block c = λ l t h.
    let e : c.from_residual.result ≡ Err c.in_err-block.field-0.0 = search rules in
    rw e (ap node_shown (c.in_err-block.ensures l t every_kind h every_kind_lem))

pub node_at-requires : goal.node_at-requires
node_at-requires c =
    let w = c.in_ok-block.ensures c.requires.0 c.requires.1 every_kind c.requires.2 every_kind_lem in
    (c.requires.0, w.0, w.2.there)

pub returns : goal.returns
returns c = λ l t h.
    let w = c.in_ok-block.ensures l t every_kind h every_kind_lem in
    rw w.1 (c.node_at.ensures l w.0 w.2.there)
