use native.Mathlib.Omega.{arith}
use Rattle.format_pack.proofs.Readings.{index_below, index_left, index_between, index_right, index_above}
use Rattle.format_pack.proofs.signs.sign_index.Goals as goal

pub returns-in-64-to-71 : goal.returns-in-64-to-71
returns-in-64-to-71 c = index_left _ (omega arith) (omega arith) c.from.ensures

pub returns-in-80-to-87 : goal.returns-in-80-to-87
returns-in-80-to-87 c = index_right _ (omega arith) (omega arith) c.from-in-80-to-87.ensures

pub returns-in_default : goal.returns-in_default
returns-in_default c = index_below _ (omega arith)

pub returns-in_default-2 : goal.returns-in_default-2
returns-in_default-2 c = index_between _ (omega arith) (omega arith)

pub returns-in_default-3 : goal.returns-in_default-3
returns-in_default-3 c = index_above _ (omega arith)
