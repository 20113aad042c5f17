use native.Mathlib.Omega.{arith}
use mathlib.Core.Path.{sym, ◌∙◌}
use Rattle.format_pack.proofs.Readings.{index_in, second_none, second_told}
use Rattle.format_pack.proofs.signs.second_operand.Goals as goal

pub returns-in_err-sign_index : goal.returns-in_err-sign_index
returns-in_err-sign_index c = c.from_residual.ensures ∙ second_none _ c.sign_index.ensures (c.in_err-sign_index.was)

pub offset_bounds-branch : goal.offset_bounds-branch
offset_bounds-branch c = let below = index_in _ _ (sym c.sign_index.ensures ∙ c.in_ok-sign_index.was) in omega arith

pub bounds-branch-branch : goal.bounds-branch-branch
bounds-branch-branch c = index_in _ _ (sym c.sign_index.ensures ∙ c.in_ok-sign_index.was)

pub returns : goal.returns
returns c = second_told _ c.sign_index.ensures (c.in_ok-sign_index.was)
