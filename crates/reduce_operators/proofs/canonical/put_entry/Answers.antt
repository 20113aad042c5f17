use mathlib.Core.Path.{sym, ◌∙◌}
use native.Mathlib.Omega.{arith}
use Rattle.reduce_operators.proofs.Rewriting.{entry_fits, spare_fits, entry_stored, spare_stored}
use Rattle.reduce_operators.proofs.canonical.put_entry.Goals as goal

pub put-requires : goal.put-requires
put-requires c = (record { rise = omega (arith, c.requires.ends.past); fits = omega (arith, c.requires.ends.is, entry_fits _ _ c.requires.whole) }, c.requires.room)

pub returns-then-not-spare_step : goal.returns-then-not-spare_step
returns-then-not-spare_step c = entry_stored _ _ c.requires.whole (λ i. omega (arith, c.type_inv.a i)) _ _ _ _ (sym c.spare_step.ensures ∙ c.if-not-spare_step.true) _ c.requires.ends.is c.put.ensures

pub put_both-requires : goal.put_both-requires
put_both-requires c = (record { rise = omega arith; fits = omega arith }, (record { rise = omega arith; fits = spare_fits _ _ c.requires.whole (sym c.spare_step.ensures ∙ c.if-not-spare_step.false) }, c.requires.room))

pub returns : goal.returns
returns c = spare_stored _ _ c.requires.whole (λ i. omega (arith, c.type_inv.a i)) _ _ _ _ (sym c.spare_step.ensures ∙ c.if-not-spare_step.false) c.put_both.ensures
