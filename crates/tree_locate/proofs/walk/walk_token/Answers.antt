use Rattle.std.proofs.Common.{rules, ◌≡◌, Ok, Err}
use Rattle.std.specs.Result.{MatchResult}
use Rattle.tree_locate.proofs.Walks.{token_short, token_walked}
use Rattle.tree_locate.proofs.walk.walk_token.Goals as goal

pub returns-then-tree-at-lt-TOKEN-clause-is : goal.returns-then-tree-at-lt-TOKEN-clause-is
returns-then-tree-at-lt-TOKEN-clause-is c = token_short _ _ _ _ c.if-tree-at-lt-TOKEN.true

pub returns : goal.returns
returns c =
    let m : MatchResult c.token.result (λ e. c.map_err.result ≡ Ok e) (λ x. c.map_err.result ≡ Err c.args.at) = search rules in
    let k = token_walked _ _ _ _ c.requires.0 c.requires.1 c.if-tree-at-lt-TOKEN.false c.token.result c.map_err.result c.token.ensures.0 m in
    record { is = k.0; within = k.1 }
