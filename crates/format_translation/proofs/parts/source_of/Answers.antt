use mathlib.Core.Path.{refl}
use Rattle.format_translation.proofs.Cuts.{heads_at, source_at, source_cut}
use Rattle.format_translation.proofs.parts.source_of.Goals as goal

pub whole_end-a-requires : goal.whole_end-a-requires
whole_end-a-requires c = (heads_at _ c.requires _ refl).0

pub slice_bounds-result-end : goal.slice_bounds-result-end
slice_bounds-result-end c = (source_at _ c.requires _ c.whole_end-a.ensures.is).1

pub returns : goal.returns
returns c = source_cut _ c.requires _ c.whole_end-a.ensures.is
