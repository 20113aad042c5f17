use mathlib.Core.Path.{refl}
use Rattle.format_translation.proofs.Cuts.{heads_at, parts_at, body_cut}
use Rattle.format_translation.proofs.parts.body_of.Goals as goal

pub whole_end-a-requires : goal.whole_end-a-requires
whole_end-a-requires c = (heads_at _ c.requires _ refl).0

pub whole_end-b-requires : goal.whole_end-b-requires
whole_end-b-requires c = (heads_at _ c.requires _ c.whole_end-a.ensures.is).1

pub slice_bounds-result-count : goal.slice_bounds-result-count
slice_bounds-result-count c = (parts_at _ c.requires _ c.whole_end-a.ensures.is _ c.whole_end-b.ensures.is).inside

pub slice_bounds-result-start : goal.slice_bounds-result-start
slice_bounds-result-start c = (parts_at _ c.requires _ c.whole_end-a.ensures.is _ c.whole_end-b.ensures.is).inside

pub returns : goal.returns
returns c = body_cut _ c.requires _ c.whole_end-a.ensures.is _ c.whole_end-b.ensures.is
