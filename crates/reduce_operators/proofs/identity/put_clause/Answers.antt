use native.Mathlib.Omega.{arith}
use mathlib.Core.Path.{refl}
use Rattle.reduce_operators.proofs.SameItem.{class_stored, production_size, production_stored}
use Rattle.reduce_operators.proofs.identity.put_clause.Goals as goal

pub returns-then-byte_at-eq-CLASS : goal.returns-then-byte_at-eq-CLASS
returns-then-byte_at-eq-CLASS c = class_stored c.args.a.now _ _ c.byte_at.ensures c.if-byte_at-eq-CLASS.true _ _ c.requires.room

pub overflow_sub-size-2 : goal.overflow_sub-size-2
overflow_sub-size-2 c = let z = production_size c.args.a.now _ _ c.byte_at.ensures c.if-byte_at-eq-CLASS.false c.requires.whole _ c.requires.ends.is in omega (arith, z.0)

pub put_both-requires : goal.put_both-requires
put_both-requires c = let z = production_size c.args.a.now _ _ c.byte_at.ensures c.if-byte_at-eq-CLASS.false c.requires.whole _ c.requires.ends.is in (record { rise = omega arith; fits = omega arith }, (record { rise = omega arith; fits = omega (arith, z.0, z.1) }, c.requires.room))

pub returns : goal.returns
returns c = production_stored c.args.a.now _ _ c.byte_at.ensures c.if-byte_at-eq-CLASS.false c.requires.whole _ c.requires.ends.is _ _ _ refl c.byte_at-result.ensures c.byte_at-name.ensures _ _ _ _ c.put_both.ensures

pub overflow_cast-head : goal.overflow_cast-head
overflow_cast-head c = record { fits = let z = production_size c.args.a.now _ _ c.byte_at.ensures c.if-byte_at-eq-CLASS.false c.requires.whole _ c.requires.ends.is in omega (arith, z.0, z.1) }
