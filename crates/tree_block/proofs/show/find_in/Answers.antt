use Rattle.std.proofs.Common.{rules, ap, ◌≡◌, Err}
use Rattle.tree_block.specs.Blocks.{every_kind}
use Rattle.tree_block.specs.Operations.{shown}
use Rattle.tree_block.proofs.Paths.{every_kind_lem}
use Rattle.tree_block.proofs.Answers.{entry_there, spot_at}
use Rattle.tree_block.proofs.show.find_in.Goals as goal

pub returns-in_err-block : goal.returns-in_err-block
returns-in_err-block c = λ l t h.
    let e : c.from_residual.result ≡ Err c.in_err-block.field-0.0 = search rules in
    rw e (ap shown (c.in_err-block.ensures l t every_kind h every_kind_lem))

pub spot_of-requires : goal.spot_of-requires
spot_of-requires c = entry_there (c.in_ok-block.ensures c.requires.0 c.requires.1 every_kind c.requires.2 every_kind_lem).2

pub returns : goal.returns
returns c = λ l t h.
    let v = c.in_ok-block.ensures l t every_kind h every_kind_lem in
    rw v.1 (spot_at v.2 c.spot_of.ensures.0 c.spot_of.ensures.1 c.spot_of.ensures.2)
