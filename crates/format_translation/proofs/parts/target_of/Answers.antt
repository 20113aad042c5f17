use mathlib.Core.Path.{refl}
use Rattle.format_translation.proofs.Cuts.{heads_at, parts_at, target_cut}
use Rattle.format_translation.proofs.parts.target_of.Goals as goal

pub whole_end-a-requires : goal.whole_end-a-requires
whole_end-a-requires c = (heads_at _ c.requires _ refl).0

pub whole_end-b-requires : goal.whole_end-b-requires
whole_end-b-requires c = (heads_at _ c.requires _ c.whole_end-a.ensures.is).1

pub slice_bounds-result-end : goal.slice_bounds-result-end
slice_bounds-result-end c = (parts_at _ c.requires _ c.whole_end-a.ensures.is _ c.whole_end-b.ensures.is).inside

pub returns : goal.returns
returns c = target_cut _ c.requires _ c.whole_end-a.ensures.is _ c.whole_end-b.ensures.is
