use mathlib.Core.Path.{refl}
use Rattle.tree_reader.proofs.Lookup.{zeros}
use Rattle.reduce_join.proofs.Joined.{body_items, body_within, source_within, target_within, spelt_checked, first_below, fitted_joining}
use Rattle.reduce_join.proofs.join.join_body.Goals as goal

pub begin-requires : goal.begin-requires
begin-requires c = (source_within _ _ _ _ c.requires.1.2.first, target_within _ _ _ _ c.requires.1.2.first, zeros 26184)

pub put_uses-requires : goal.put_uses-requires
put_uses-requires c = (body_within _ _ _ _ c.requires.1.2.first, refl, zeros 8192, (_, body_items _ _ _ _ c.requires.1.2.first))

pub prepare-requires : goal.prepare-requires
prepare-requires c = (c.begin.ensures, (_, spelt_checked _ _ _ _ c.requires.1.2.first))

pub put_uses-requires-2 : goal.put_uses-requires-2
put_uses-requires-2 c = (body_within _ _ _ _ c.requires.1.2.second.1, refl, zeros 8192, (_, body_items _ _ _ _ c.requires.1.2.second.1))

pub number_limit-limit-requires : goal.number_limit-limit-requires
number_limit-limit-requires c = (_, body_items _ _ _ _ c.requires.1.2.first)

pub join_items-requires : goal.join_items-requires
join_items-requires c = (c.requires.0, (_, _, fitted_joining _ _ _ _ _ _ _ c.requires.1.2 _ _ _ _ (λ h. c.prepare.ensures.1 _ h (c.put_uses.ensures.1 _ (body_items _ _ _ _ c.requires.1.2.first))) (c.put_uses.ensures.1 _ (body_items _ _ _ _ c.requires.1.2.first)) (c.put_uses-2.ensures.1 _ (body_items _ _ _ _ c.requires.1.2.second.1)) (c.number_limit-limit.ensures.1 _ (body_items _ _ _ _ c.requires.1.2.first) (first_below _ _ _ _ _ _ _ c.requires.1.2)) c.number_limit-limit.ensures.0))

pub returns : goal.returns
returns c = λ f g w. c.join_items.ensures f g (fitted_joining _ _ _ _ _ _ _ (w) _ _ _ _ (λ h. c.prepare.ensures.1 _ h (c.put_uses.ensures.1 _ (body_items _ _ _ _ w.first))) (c.put_uses.ensures.1 _ (body_items _ _ _ _ w.first)) (c.put_uses-2.ensures.1 _ (body_items _ _ _ _ w.second.1)) (c.number_limit-limit.ensures.1 _ (body_items _ _ _ _ w.first) (first_below _ _ _ _ _ _ _ (w))) c.number_limit-limit.ensures.0)
