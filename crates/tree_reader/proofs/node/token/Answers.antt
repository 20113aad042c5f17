use native.Mathlib.Omega.{arith}
use Rattle.tree_reader.proofs.Laws.{token_none, token_short, token_out, token_good}
use Rattle.tree_reader.proofs.node.token.Goals as goal

pub returns-then-place-eq0 : goal.returns-then-place-eq0
returns-then-place-eq0 c = (token_none _ _ _ _ c.if-place-eq0.true, tt)

pub returns-then-bytes-at-lt2 : goal.returns-then-bytes-at-lt2
returns-then-bytes-at-lt2 c = (token_short _ _ _ _ c.if-place-eq0.false c.if-bytes-at-lt2.true, tt)

pub in_range-requires : goal.in_range-requires
in_range-requires c = c.requires.1 (omega arith)

pub returns-then-not-in_range : goal.returns-then-not-in_range
returns-then-not-in_range c = (token_out _ _ _ _ c.if-place-eq0.false c.if-bytes-at-lt2.false c.pair_in.ensures.0 c.in_range.ensures (c.if-not-in_range.true), tt)

pub returns : goal.returns
returns c = (token_good _ _ _ _ c.if-place-eq0.false c.if-bytes-at-lt2.false c.pair_in.ensures.0 c.in_range.ensures (c.if-not-in_range.false), omega arith)
