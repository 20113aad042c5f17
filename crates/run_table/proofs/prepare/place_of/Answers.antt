use Prim.Native.Nat.{◌+◌}
use mathlib.Core.Path.{sym, ◌∙◌}
use native.Mathlib.Omega.{arith}
use Rattle.run_table.proofs.Tables.{place_is}
use Rattle.run_table.proofs.prepare.place_of.Goals as goal

pub returns-in-0 : goal.returns-in-0
returns-in-0 c = sym (place_is c.args.table.now c.from.ensures c.from-2.ensures c.production_key.ensures.0) ∙ c.in-0.is

pub returns-in_default : goal.returns-in_default
returns-in_default c = (
  c.from-in_default.ensures ∙ place_is c.args.table.now c.from.ensures c.from-2.ensures c.production_key.ensures.0,
  omega arith,
  omega (arith, c.type_inv.table (8224 + c.production_key.result)),
)
