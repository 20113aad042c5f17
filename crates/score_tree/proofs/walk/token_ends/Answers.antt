use mathlib.Core.Path.{refl, sym, ◌∙◌}
use Rattle.score_tree.proofs.Plans.{pair_short, pair_first, pair_second, pair_order, pair_good, one_good}
use Rattle.score_tree.proofs.walk.token_ends.Goals as goal

pub returns-then-bytes-at : goal.returns-then-bytes-at
returns-then-bytes-at c = (pair_short _ _ c.args.bytes.now c.args.at _ c.token_size-size.ensures c.if-bytes-at.true, tt)

pub returns-then-not-in_range : goal.returns-then-not-in_range
returns-then-not-in_range c =
    (pair_first _ _ c.args.bytes.now c.args.at _ c.token_size-size.ensures c.if-bytes-at.false _ _ c.pair_in-least.ensures.0 refl (sym c.in_range.ensures ∙ c.if-not-in_range.true), tt)

pub returns-then-not-in_range-2 : goal.returns-then-not-in_range-2
returns-then-not-in_range-2 c =
    (pair_second _ _ c.args.bytes.now c.args.at _ c.token_size-size.ensures c.if-bytes-at.false _ _ c.pair_in-least.ensures.0 c.pair_in-greatest.ensures.0 (sym c.in_range.ensures ∙ c.if-not-in_range.false) (sym c.in_range-2.ensures ∙ c.if-not-in_range-2.true), tt)

pub returns-then-greatest-least : goal.returns-then-greatest-least
returns-then-greatest-least c =
    (pair_order _ _ c.args.bytes.now c.args.at _ c.token_size-size.ensures c.if-bytes-at.false _ _ c.pair_in-least.ensures.0 c.pair_in-greatest.ensures.0 (sym c.in_range.ensures ∙ c.if-not-in_range.false) (sym c.in_range-2.ensures ∙ c.if-not-in_range-2.false) c.if-greatest-least.true, tt)

pub returns-in-Fixed : goal.returns-in-Fixed
returns-in-Fixed c =
    (rw c.token_bounds.ensures.0 (one_good _ _ c.args.bytes.now c.args.at _ c.token_size-size.ensures c.in-Fixed.is c.if-bytes-at.false _ c.pair_in-least.ensures.0 (sym c.in_range.ensures ∙ c.if-not-in_range.false)), c.token_bounds.ensures.1)

pub returns : goal.returns
returns c =
    (rw c.token_bounds-2.ensures.0 (pair_good _ _ c.args.bytes.now c.args.at _ c.token_size-size.ensures c.if-bytes-at.false _ _ c.pair_in-least.ensures.0 c.pair_in-greatest.ensures.0 (sym c.in_range.ensures ∙ c.if-not-in_range.false) (sym c.in_range-2.ensures ∙ c.if-not-in_range-2.false) c.if-greatest-least.false _ _ refl refl), c.token_bounds-2.ensures.1)
