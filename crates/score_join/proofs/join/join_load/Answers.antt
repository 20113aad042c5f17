use native.Mathlib.Omega.{arith}
use mathlib.Core.Path.{refl}
use Rattle.score_join.proofs.Joins.{key_is, production_in, clause_term, load_puts}
use Rattle.score_join.proofs.Puts.{written_long}
use Rattle.score_join.proofs.join.join_load.Goals as goal

pub bounds-source-p : goal.bounds-source-p
bounds-source-p c = let i = production_in c.requires.4.2 in omega (arith, i.0, i.1)

pub pair_in-requires : goal.pair_in-requires
pair_in-requires c = let i = production_in c.requires.4.2 in omega (arith, i.0, i.1)

pub place_at-place-requires : goal.place_at-place-requires
place_at-place-requires c = let i = key_is c.requires.4.2 in let l = c.requires.4.2.parts.indexed.sound.long in omega (arith, i.1, l, c.pair_in.ensures.0)

pub bounds-source-p-2 : goal.bounds-source-p-2
bounds-source-p-2 c = let i = production_in c.requires.4.2 in omega (arith, i.0, i.1)

pub bounds-source-p-3 : goal.bounds-source-p-3
bounds-source-p-3 c = let i = production_in c.requires.4.2 in omega (arith, i.0, i.1)

pub overflow_add-place : goal.overflow_add-place
overflow_add-place c = let k = clause_term c.requires.4.2 _ _ _ _ c.map_kind-kind.ensures.0 c.map_kind-kind.ensures.1 c.pair_in.ensures.0 c.place_at-place.ensures refl in omega (arith, k.stands.inside, c.requires.4.2.parts.checked.short)

pub join_figures-requires : goal.join_figures-requires
join_figures-requires c = (let l = written_long _ _ _ _ _ c.put_head-to.ensures in let e = c.put_head-to.ensures.end in omega (arith, c.requires.0), c.requires.2, c.requires.3, (_, _, c.requires.4.1, _, clause_term c.requires.4.2 _ _ _ _ c.map_kind-kind.ensures.0 c.map_kind-kind.ensures.1 c.pair_in.ensures.0 c.place_at-place.ensures refl))

pub returns : goal.returns
returns c = λ f w a. load_puts f w _ _ _ _ _ _ _ _ _ _ _ refl refl refl c.put_head-to.ensures _ _ (c.join_figures.ensures _ _ w _ (clause_term a _ _ _ _ c.map_kind-kind.ensures.0 c.map_kind-kind.ensures.1 c.pair_in.ensures.0 c.place_at-place.ensures refl))
