use mathlib.Core.Path.{refl, sym, ◌∙◌}
use Rattle.search_operation.proofs.Listing.{listed_start, first_inside, second_inside, listed_next, listed_maps, listed_lowest}
use Rattle.search_operation.proofs.kinds.put_kinds.Goals as goal

pub loop-kind-init : goal.loop-kind-init
loop-kind-init c = (refl, listed_start _ _ _ c.requires)

pub bounds-kinds-kind : goal.bounds-kinds-kind
bounds-kinds-kind c = first_inside _ _ _ _ c.loop-kind.invariant.1 c.loop-kind-test.true

pub bounds-kinds-kind-in-loop-kind : goal.bounds-kinds-kind-in-loop-kind
bounds-kinds-kind-in-loop-kind c = second_inside _ _ _ _ c.loop-kind.invariant.1 c.loop-kind-test.true _

pub loop-kind-preserved : goal.loop-kind-preserved
loop-kind-preserved c = (let x = listed_next _ _ _ _ c.loop-kind.invariant.1 c.loop-kind-test.true _ _ c.mapped_kind.ensures c.lowest_name.ensures in x.long ∙ (sym c.loop-kind.invariant.1.long ∙ c.loop-kind.invariant.0), listed_next _ _ _ _ c.loop-kind.invariant.1 c.loop-kind-test.true _ _ c.mapped_kind.ensures c.lowest_name.ensures)

pub returns : goal.returns
returns c = (λ b u. listed_maps _ _ _ _ c.loop-kind-test.false c.loop-kind.invariant.1 b u, listed_lowest _ _ _ _ c.loop-kind-test.false c.loop-kind.invariant.1)
