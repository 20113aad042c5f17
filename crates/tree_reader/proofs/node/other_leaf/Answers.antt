use native.Mathlib.Omega.{arith}
use Rattle.tree_reader.proofs.Laws.{leaf_token, leaf_numbered, leaf_other, class_in}
use Rattle.tree_reader.proofs.node.other_leaf.Goals as goal

pub token-requires : goal.token-requires
token-requires c = (omega (arith, c.requires.1), class_in _ _ c.requires.0.sound c.from.ensures c.requires.0.kind c.place_at.ensures)

pub returns-then-sign-eq-TOKEN : goal.returns-then-sign-eq-TOKEN
returns-then-sign-eq-TOKEN c = (λ n. leaf_token _ _ _ _ _ _ c.requires.1 c.if-sign-eq-TOKEN.true c.from.ensures c.place_at.ensures c.token.ensures.0, c.token.ensures.1)

pub returns-then-sign-eq-NUMBERED_ARGUMENT : goal.returns-then-sign-eq-NUMBERED_ARGUMENT
returns-then-sign-eq-NUMBERED_ARGUMENT c = (λ n. leaf_numbered _ _ _ _ _ _ c.requires.1 c.if-sign-eq-NUMBERED_ARGUMENT.true c.numbered.ensures.0, c.numbered.ensures.1)

pub returns : goal.returns
returns c = (λ n. leaf_other _ _ _ _ _ _ c.requires.1 n c.if-sign-eq-TOKEN.false c.if-sign-eq-NUMBERED_ARGUMENT.false, tt)
