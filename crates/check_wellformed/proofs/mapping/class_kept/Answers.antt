use Rattle.std.proofs.Common.{ℕ, arith, ap, ◌∙◌, ◌-◌, get_or}
use Rattle.check_wellformed.specs.Inner.Tests.{place_before}
use Rattle.check_wellformed.proofs.Source.{source_indexed}
use Rattle.check_wellformed.proofs.Matching.{rising_entries}
use Rattle.check_wellformed.proofs.Along.{skipped_by}
use Rattle.check_wellformed.proofs.Mappings.{kept_is, before_is, place_in}
use Rattle.check_wellformed.proofs.mapping.class_kept.Goals as goal

pub place_of-place-requires : goal.place_of-place-requires
place_of-place-requires c =
    let r = c.args.parts.now in
    (rising_entries _ _ _ _ _ _ c.requires.0.2 r.source_bytes r.body_bytes, skipped_by _ _ _ _ c.from.ensures c.requires.3, omega (arith, c.from.ensures, c.requires.1.source))

pub range_kept-requires : goal.range_kept-requires
range_kept-requires c =
    let r = c.args.parts.now in
    let w = source_indexed _ _ _ _ _ _ c.requires.0.2 r.source_bytes in
    let to = c.from-2.ensures ∙ ap (λ (x : ℕ). get_or r.body.now (x - 1) 0) c.requires.2 in (
      place_in _ _ w.sound _ _ c.from.ensures c.requires.1.source c.place_of-place.ensures,
      place_in _ _ c.requires.0.2.target.sound _ _ to c.requires.1.target (before_is _ _ c.checked_sub-goal.ensures ∙ ap place_before c.place_at.ensures),
    )

pub returns : goal.returns
returns c =
    kept_is _ _ _ _ _ _ _ c.requires.2 _ _ c.from.ensures c.place_of-place.ensures c.from-2.ensures
    (before_is _ _ c.checked_sub-goal.ensures ∙ ap place_before c.place_at.ensures) _ c.range_kept.ensures
