use native.Mathlib.Omega.{arith}
use mathlib.Core.Path.{refl, sym, ◌∙◌}
use Rattle.format_fields.proofs.Places.{every_done, every_stop, every_next}
use Rattle.format_translation.proofs.Items.{holds_items}
use Rattle.format_translation.proofs.Whole.{item_long, item_here, items_on}
use Rattle.format_translation.proofs.Uses.{front_start, front_next}
use Rattle.check_wellformed.proofs.Mappings.{mapping_at, fits_not, fits_kept, front_fits}
use Rattle.check_wellformed.proofs.Matching.{source_long, body_order}
use Rattle.check_wellformed.proofs.Along.{along_first, along_long, mapping_beside, mapping_next}
use Rattle.check_wellformed.proofs.mapping.mappings_fit.Goals as goal

pub loop-p-init : goal.loop-p-init
loop-p-init c = let z = c.requires.0.2 in (front_start _ _ z.body, (holds_items _ _ z.body).whole, refl, along_first _ _ (body_order _ _ _ _ _ _ z c.args.parts.now.source_bytes c.args.parts.now.body_bytes))

pub returns-then-is_clause : goal.returns-then-is_clause
returns-then-is_clause c = front_fits _ _ _ _ _ _ _ _ c.loop-p.invariant.0 c.loop-p-test.true (sym c.is_clause.ensures ∙ c.if-is_clause.true) _ c.loop-p.invariant.2

pub whole_end-e-requires : goal.whole_end-e-requires
whole_end-e-requires c = let k = item_long _ _ (item_here _ _ c.loop-p.invariant.1 _ refl c.loop-p-test.true) in omega (arith, k)

pub reaches_at-requires : goal.reaches_at-requires
reaches_at-requires c = ((mapping_at _ _ (item_here _ _ c.loop-p.invariant.1 _ refl c.loop-p-test.true) (sym c.is_clause.ensures ∙ c.if-is_clause.false)).0, c.whole_end-e.ensures.is, c.requires.1, c.requires.2)

pub returns-then-not-reaches_at : goal.returns-then-not-reaches_at
returns-then-not-reaches_at c = every_stop _ _ _ _ c.loop-p.invariant.2 _ (fits_not _ _ _ _ _ _ _ _ (sym c.is_clause.ensures ∙ c.if-is_clause.false) _ c.reaches_at.ensures (c.if-not-reaches_at.true)) _ c.whole_end-e.ensures.is c.loop-p-test.true refl

pub bounds-body-p-in-loop-p : goal.bounds-body-p-in-loop-p
bounds-body-p-in-loop-p c = let k = item_long _ _ (item_here _ _ c.loop-p.invariant.1 _ refl c.loop-p-test.true) in omega (arith, k)

pub skip_below-from-requires : goal.skip_below-from-requires
skip_below-from-requires c = along_long _ _ _ _ c.loop-p.invariant.3 (source_long _ _ _ _ _ _ c.requires.0.2 c.args.parts.now.source_bytes c.args.parts.now.body_bytes)

pub class_kept-requires : goal.class_kept-requires
class_kept-requires c = (c.requires.0, (mapping_at _ _ (item_here _ _ c.loop-p.invariant.1 _ refl c.loop-p-test.true) (sym c.is_clause.ensures ∙ c.if-is_clause.false)).0, c.whole_end-e.ensures.is, mapping_beside _ _ _ _ c.loop-p.invariant.3 c.args.parts.now.body_bytes c.loop-p-test.true (item_here _ _ c.loop-p.invariant.1 _ refl c.loop-p-test.true) (sym c.is_clause.ensures ∙ c.if-is_clause.false) _ c.from.ensures _ c.skip_below-from.ensures)

pub returns-then-not-class_kept : goal.returns-then-not-class_kept
returns-then-not-class_kept c = every_stop _ _ _ _ c.loop-p.invariant.2 _ (fits_kept _ _ _ _ _ _ _ _ (sym c.is_clause.ensures ∙ c.if-is_clause.false) _ c.reaches_at.ensures (c.if-not-reaches_at.false) _ c.class_kept.ensures) _ c.whole_end-e.ensures.is c.loop-p-test.true (c.if-not-class_kept.true)

pub loop-p-preserved : goal.loop-p-preserved
loop-p-preserved c = (front_next _ _ c.loop-p.invariant.0 c.loop-p-test.true (sym c.is_clause.ensures ∙ c.if-is_clause.false) _ c.whole_end-e.ensures.is, items_on _ _ c.loop-p.invariant.1 _ c.whole_end-e.ensures.is c.loop-p-test.true, every_next _ _ _ _ c.loop-p.invariant.2 _ (fits_kept _ _ _ _ _ _ _ _ (sym c.is_clause.ensures ∙ c.if-is_clause.false) _ c.reaches_at.ensures (c.if-not-reaches_at.false) _ c.class_kept.ensures) _ c.whole_end-e.ensures.is c.loop-p-test.true (c.if-not-class_kept.false), mapping_next _ _ _ _ c.loop-p.invariant.3 c.args.parts.now.body_bytes c.loop-p-test.true (item_here _ _ c.loop-p.invariant.1 _ refl c.loop-p-test.true) (sym c.is_clause.ensures ∙ c.if-is_clause.false) _ c.from.ensures _ c.skip_below-from.ensures _ c.whole_end-e.ensures.is)

pub returns : goal.returns
returns c = every_done _ _ _ _ c.loop-p.invariant.2 c.loop-p-test.false
