use native.Mathlib.Omega.{arith}
use Rattle.search_levels.proofs.Naming.{place_inside, none_behind, next_inside, other_behind, next_behind}
use Rattle.search_levels.proofs.names.name_behind.Goals as goal

pub last_operand-next-requires : goal.last_operand-next-requires
last_operand-next-requires c = let z = place_inside _ _ c.requires.3 _ _ c.requires.0 c.requires.1 c.requires.2 _ _ c.index_at-place.ensures.0 c.production_key.ensures.0 in z.1

pub returns-then-source-next : goal.returns-then-source-next
returns-then-source-next c = let z = none_behind _ _ c.requires.3 _ _ c.requires.0 c.requires.1 c.requires.2 _ _ _ c.index_at-place.ensures.0 c.production_key.ensures.0 c.last_operand-next.ensures c.if-source-next.true in (omega (arith, c.requires.1), tt, z)

pub bounds-source-next : goal.bounds-source-next
bounds-source-next c = let z = next_inside _ _ c.requires.3 _ _ c.requires.0 c.requires.1 c.requires.2 _ _ _ c.index_at-place.ensures.0 c.production_key.ensures.0 c.last_operand-next.ensures c.if-source-next.false in omega arith

pub returns-then-from-kind : goal.returns-then-from-kind
returns-then-from-kind c = let z = other_behind _ _ c.requires.3 _ _ c.requires.0 c.requires.1 c.requires.2 _ _ _ c.index_at-place.ensures.0 c.production_key.ensures.0 c.last_operand-next.ensures c.if-source-next.false c.from.ensures c.if-from-kind.true in (omega (arith, c.requires.1), tt, z)

pub bounds-source-next-2 : goal.bounds-source-next-2
bounds-source-next-2 c = next_inside _ _ c.requires.3 _ _ c.requires.0 c.requires.1 c.requires.2 _ _ _ c.index_at-place.ensures.0 c.production_key.ensures.0 c.last_operand-next.ensures c.if-source-next.false

pub returns : goal.returns
returns c = next_behind _ _ c.requires.3 _ _ c.requires.0 c.requires.1 c.requires.2 _ _ _ c.index_at-place.ensures.0 c.production_key.ensures.0 c.last_operand-next.ensures c.if-source-next.false c.from.ensures c.if-from-kind.false c.from-2.ensures
