use Prim.Native.Nat.{◌+◌}
use lib.ListN.{get_or}
use Rattle.reduce_signs.specs.Inner.Sorts.{sort_of}
use mathlib.Core.Path.{◌∙◌}
use native.Mathlib.Omega.{arith}
use Rattle.reduce_signs.proofs.Copying.{variable_none, variable_some, variable_wrote}
use Rattle.reduce_signs.proofs.leaves.variable.Goals as goal

pub returns-then-start-eq0 : goal.returns-then-start-eq0
returns-then-start-eq0 c = λ e h. variable_none e c.args.places c.args.store.now c.args.top (sort_of c.args.sort) (get_or c.args.pack.now (c.args.at + 1) 0) h c.requires.1 _ _ c.slot_of-slot.ensures.0 (c.from.ensures ∙ c.byte_at.ensures) _ c.start_of-start.ensures c.if-start-eq0.true

pub copy-requires : goal.copy-requires
copy-requires c = let k = variable_some c.requires.0.0 c.args.places c.args.store.now c.args.top (sort_of c.args.sort) (get_or c.args.pack.now (c.args.at + 1) 0) c.requires.0.1 c.requires.1 _ _ c.slot_of-slot.ensures.0 (c.from.ensures ∙ c.byte_at.ensures) _ c.start_of-start.ensures c.if-start-eq0.false c.end_of-end.ensures in ((k.0, k.4), k.2, k.3, omega (arith, c.requires.3))

pub returns : goal.returns
returns c = λ e h. variable_wrote e c.args.places c.args.store.now c.args.top (sort_of c.args.sort) (get_or c.args.pack.now (c.args.at + 1) 0) h c.requires.1 _ _ c.slot_of-slot.ensures.0 (c.from.ensures ∙ c.byte_at.ensures) _ c.start_of-start.ensures c.if-start-eq0.false c.end_of-end.ensures c.copy.ensures c.finish.ensures
