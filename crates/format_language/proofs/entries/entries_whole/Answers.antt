use native.Mathlib.Omega.{arith}
use mathlib.Core.Path.{refl}
use mathlib.Core.Bool.{false}
use Rattle.format_language.proofs.Holds.{entries_there}
use Rattle.format_language.proofs.Returns.{entry_cut, entry_is}
use Rattle.format_fields.proofs.Places.{every_done, every_stop, every_next}
use Rattle.format_language.proofs.entries.entries_whole.Goals as goal

pub loop-p-init : goal.loop-p-init
loop-p-init c = entries_there _

pub returns-in_default : goal.returns-in_default
returns-in_default c = every_stop _ _ _ _ c.loop-p.invariant false (entry_cut _ _ (c.end_if_whole.ensures.cut c.in_default.is)) _ refl c.loop-p-test.true refl

pub entry_good-requires : goal.entry_good-requires
entry_good-requires c = (c.end_if_whole.ensures.whole _ c.in-Some.is)

pub returns-then-not-entry_good : goal.returns-then-not-entry_good
returns-then-not-entry_good c = every_stop _ _ _ _ c.loop-p.invariant _ (entry_is _ _ _ (c.end_if_whole.ensures.whole _ c.in-Some.is) _ c.entry_good.ensures) _ refl c.loop-p-test.true (c.if-not-entry_good.true)

pub loop-p-smaller : goal.loop-p-smaller
loop-p-smaller c = let w = (c.end_if_whole.ensures.whole _ c.in-Some.is) in omega (arith, w.past)

pub loop-p-preserved : goal.loop-p-preserved
loop-p-preserved c = every_next _ _ _ _ c.loop-p.invariant _ (entry_is _ _ _ (c.end_if_whole.ensures.whole _ c.in-Some.is) _ c.entry_good.ensures) _ (c.end_if_whole.ensures.whole _ c.in-Some.is).is c.loop-p-test.true (c.if-not-entry_good.false)

pub returns : goal.returns
returns c = every_done _ _ _ _ c.loop-p.invariant c.loop-p-test.false
