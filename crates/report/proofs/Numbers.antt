-- The propositions that hold with other numbers.
use mathlib.Core.Path.{◌≡◌, subst}
use Rattle.outcome.specs.Outcome.{value}
use Rattle.format_fields.proofs.Truth.{all_mem}
use Rattle.format_fields.proofs.Keyed.{is_rising}
use Rattle.format_translation.specs.Translation.{Translation, item_key, mapping_of}
use Rattle.format_translation.specs.Running.{transform}
use Rattle.format_translation.specs.WellFormed.{well_formed}
use Rattle.format_translation.proofs.Codec.{item_whole, rises_parts, translation_whole}
use Rattle.format_translation.proofs.Preserved.{typed_substitute, kept_tree, typed_run}
use Rattle.format_translation.proofs.Fitting.{fit_carries, fit_tests}
use Rattle.reduce_operators.specs.Operators.{joined}
use Rattle.reduce_operators.proofs.Proper.{good_proper, Sound, kinds_below, formed_sound}
use Rattle.reduce_operators.proofs.SumSound.{fit_translations, sound_union}
use Rattle.reduce_operators.proofs.JoinSound.{sound_join}
use Rattle.reduce_terms.proofs.Evaluated.{within, translation_sum_lem, translation_join_lem}
use Rattle.report.specs.Numbers.{Held, NumberedC10, NumberedC11, NumberedC14, NumberedC16}

held_sound : (f : Translation) → Held f → Sound f
held_sound f h =
    let w = translation_whole h.0 f h.1 in
    let r = rises_parts f w.1.rises in
    (formed_sound f f
    (good_proper f.source (record { whole = w.1.source; rises = r.0; apart = w.1.source_apart; short = w.1.source_short }))
    (good_proper f.target (record { whole = w.1.target; rises = r.1; apart = w.1.target_apart; short = w.1.target_short }))
    (all_mem item_whole f.body w.1.body) (is_rising item_key f.body r.2) w.2).0

sound_tests : (f : Translation) → Sound f → well_formed f ≡ value f
sound_tests f s = fit_tests f (kinds_below f s.source) s.rises s.source.rises s.fits

pub numbered_c10 : NumberedC10
numbered_c10 l u v s a n x h = typed_substitute h x

pub numbered_c11 : NumberedC11
unfolding transform
numbered_c11 f h a n j t x e =
    let s = held_sound f h in
    typed_run (fit_carries f s.rises s.fits) (kept_tree (mapping_of f.body)) j t x e

pub numbered_c14 : NumberedC14
numbered_c14 f g h a b e =
    let r = translation_sum_lem f g h e in
    sound_tests h (subst Sound r.1 (sound_union f g (held_sound f a) (held_sound g b) (fit_translations f g r.0)))

pub numbered_c16 : NumberedC16
numbered_c16 f g h a b e x =
    let r = translation_join_lem f g h e in
    let w = within (joined f g) (rw r.1 x) in
    sound_tests h (subst Sound r.1 (sound_join f g (held_sound f a) (held_sound g b) r.0 r.2 r.3 w.codes))
