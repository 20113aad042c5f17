use Rattle.tree_reader.proofs.Laws.{past_end, past_other, past_sign, class_in}
use native.Mathlib.Omega.{arith}
use Rattle.tree_reader.proofs.node.past_code.Goals as goal

pub returns-then-bytes-at : goal.returns-then-bytes-at
returns-then-bytes-at c = (past_end _ _ _ _ _ c.if-bytes-at.true, tt)

pub returns-then-bytes-at-ne-TOKEN : goal.returns-then-bytes-at-ne-TOKEN
returns-then-bytes-at-ne-TOKEN c = (past_other _ _ _ _ _ c.if-bytes-at.false c.if-bytes-at-ne-TOKEN.true, tt)

pub token-requires : goal.token-requires
token-requires c = (omega arith, class_in _ _ c.requires.sound c.from.ensures c.requires.kind c.place_at.ensures)

pub returns : goal.returns
returns c = (past_sign _ _ _ _ _ c.if-bytes-at.false c.if-bytes-at-ne-TOKEN.false c.from.ensures c.place_at.ensures c.token.ensures.0, c.token.ensures.1)
