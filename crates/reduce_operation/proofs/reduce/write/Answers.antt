use mathlib.Core.Path.{refl}
use native.Mathlib.Omega.{arith}
use Rattle.reduce_operation.proofs.Operation.{write_done, short_take}
use borrow.Author.Rules.{rules}
use Rattle.reduce_operation.proofs.reduce.write.Goals as goal

pub put-requires : goal.put-requires
put-requires c = (record { rise = omega arith; fits = omega arith }, omega arith)

pub returns : goal.returns
returns c = (refl, write_done c.put.ensures (search (short_take, rules)))
