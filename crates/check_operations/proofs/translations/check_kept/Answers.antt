use native.Mathlib.Omega.{arith}
use mathlib.Core.Path.{refl}
use Rattle.format_translation.proofs.Found.{heads_in, parted}
use Rattle.check_operations.proofs.TranslationChain.{over_refused, over_none, broken_refused, broken_none, parts_there, pieces, pieces_checked, pieces_made}
use Rattle.check_operations.proofs.translations.check_kept.Goals as goal

pub returns-then-over_limit : goal.returns-then-over_limit
returns-then-over_limit c = record { is = over_refused _ _ c.over_limit.ensures c.if-over_limit.true refl; kept = (c.requires.0, λ f e. over_none _ _ c.over_limit.ensures c.if-over_limit.true f e) }

pub returns-then-not-parts_whole : goal.returns-then-not-parts_whole
returns-then-not-parts_whole c = record { is = broken_refused _ _ c.over_limit.ensures c.if-over_limit.false _ c.parts_whole.ensures (c.if-not-parts_whole.true) refl; kept = (c.requires.0, λ f e. broken_none _ _ c.over_limit.ensures c.if-over_limit.false _ c.parts_whole.ensures (c.if-not-parts_whole.true) f e) }

pub whole_end-a-requires : goal.whole_end-a-requires
whole_end-a-requires c = (heads_in _ _ refl (parts_there _ _ c.over_limit.ensures c.if-over_limit.false _ c.parts_whole.ensures (c.if-not-parts_whole.false))).0

pub whole_end-b-requires : goal.whole_end-b-requires
whole_end-b-requires c = (heads_in _ _ c.whole_end-a.ensures.is (parts_there _ _ c.over_limit.ensures c.if-over_limit.false _ c.parts_whole.ensures (c.if-not-parts_whole.false))).1

pub slice_bounds-check_parts-end : goal.slice_bounds-check_parts-end
slice_bounds-check_parts-end c = let p = parts_there _ _ c.over_limit.ensures c.if-over_limit.false _ c.parts_whole.ensures (c.if-not-parts_whole.false) in let w = parted _ _ c.whole_end-a.ensures.is _ c.whole_end-b.ensures.is p.0 p.1 in omega (arith, w.source_past, w.target_past, w.inside)

pub slice_bounds-check_parts-end-2 : goal.slice_bounds-check_parts-end-2
slice_bounds-check_parts-end-2 c = let p = parts_there _ _ c.over_limit.ensures c.if-over_limit.false _ c.parts_whole.ensures (c.if-not-parts_whole.false) in let w = parted _ _ c.whole_end-a.ensures.is _ c.whole_end-b.ensures.is p.0 p.1 in omega (arith, w.source_past, w.target_past, w.inside)

pub slice_bounds-check_parts-count-3 : goal.slice_bounds-check_parts-count-3
slice_bounds-check_parts-count-3 c = let p = parts_there _ _ c.over_limit.ensures c.if-over_limit.false _ c.parts_whole.ensures (c.if-not-parts_whole.false) in let w = parted _ _ c.whole_end-a.ensures.is _ c.whole_end-b.ensures.is p.0 p.1 in omega (arith, w.source_past, w.target_past, w.inside)

pub slice_bounds-check_parts-start-3 : goal.slice_bounds-check_parts-start-3
slice_bounds-check_parts-start-3 c = let p = parts_there _ _ c.over_limit.ensures c.if-over_limit.false _ c.parts_whole.ensures (c.if-not-parts_whole.false) in let w = parted _ _ c.whole_end-a.ensures.is _ c.whole_end-b.ensures.is p.0 p.1 in omega (arith, w.source_past, w.target_past, w.inside)

pub check_parts-requires : goal.check_parts-requires
check_parts-requires c = let p = parts_there _ _ c.over_limit.ensures c.if-over_limit.false _ c.parts_whole.ensures (c.if-not-parts_whole.false) in
    (c.requires.0, c.requires.1, c.requires.2, c.requires.3, (p.0, pieces _ _ c.over_limit.ensures c.if-over_limit.false _ c.whole_end-a.ensures.is _ c.whole_end-b.ensures.is p.0 p.1))

pub returns : goal.returns
returns c = let p = parts_there _ _ c.over_limit.ensures c.if-over_limit.false _ c.parts_whole.ensures (c.if-not-parts_whole.false) in
    let k = c.check_parts.ensures.kept in record {
      is = pieces_checked _ _ c.over_limit.ensures c.if-over_limit.false _ c.whole_end-a.ensures.is _ c.whole_end-b.ensures.is p.0 p.1 (c.check_parts.ensures.is p.0 (pieces _ _ c.over_limit.ensures c.if-over_limit.false _ c.whole_end-a.ensures.is _ c.whole_end-b.ensures.is p.0 p.1));
      kept = (k.0, pieces_made _ _ c.over_limit.ensures c.if-over_limit.false _ c.whole_end-a.ensures.is _ c.whole_end-b.ensures.is _ _ k.1);
    }
