use Rattle.std.proofs.Common.{arith, refl}
use Rattle.tree_mask.proofs.Masks.{token_hidden, token_short, token_put}
use Rattle.tree_mask.proofs.walk.put_token.Goals as goal

pub returns-then-not-seen : goal.returns-then-not-seen
returns-then-not-seen c = (token_hidden c.args.seen c.args.tree.now c.args.at c.args.out.now c.args.n c.requires.0 _ c.if-not-seen.true c.put.ensures, omega arith)

pub returns-then-end-out : goal.returns-then-end-out
returns-then-end-out c = (token_put c.args.seen c.args.tree.now c.args.at c.args.out.now c.args.n c.requires.0 c.if-not-seen.false _ _ c.copy_from_slice.ensures.after refl, omega arith)

pub returns-else-end-out : goal.returns-else-end-out
returns-else-end-out c = (token_short c.args.seen c.args.tree.now c.args.at c.args.out.now c.args.n c.requires.0 c.if-not-seen.false c.if-end-out.false, omega arith)
