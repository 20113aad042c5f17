-- The chain of tests of `check_translation`: a law for each return of the functions of the check.
use Rattle.std.specs.Prelude.{Err}
use Prim.Native.Nat.{ℕ, ◌+◌, ◌≤◌}
use mathlib.Core.Path.{◌≡◌, refl, sym, ap, ◌∙◌}
use mathlib.Core.Bool.{Bool, true, false, ◌||◌}
use mathlib.Core.List.{List}
use mathlib.Core.Option.{Option, none, some}
use native.Mathlib.Omega.{arith}
use lib.ListN.{length}
use lib.Dec.{ltb}
use borrow.Author.Tests.{ltb-false}
use Rattle.format_fields.specs.Lists.{is_some}
use Rattle.format_fields.specs.Fields.{has_over}
use Rattle.format_fields.specs.Inner.Places.{field_end}
use Rattle.outcome.specs.Outcome.{value, refused, ◌>>=◌, checked, Outcome}
use Rattle.outcome.specs.declared.Reason.TheVariants as Why
use Rattle.format_fields.proofs.Truth.{false_true, some_is, or_false}
use Rattle.format_fields.proofs.Codec.{refused_value}
use Rattle.format_language.specs.LanguageFile.{language_limit, whole}
use Rattle.tree_reader.specs.Inner.Index.{Built}
use Rattle.format_translation.specs.Translation.{Translation}
use Rattle.format_translation.specs.TranslationFile.{parts_of, translation_limit, is_language_tag, translation_of}
use Rattle.format_translation.specs.Operations.{check_translation}
use Rattle.format_translation.specs.Inner.ItemIndex.{Mapped}
use Rattle.format_translation.specs.Inner.Parts.{source_in, target_in}
use Rattle.format_translation.specs.Inner.Pieces.{Pieces}
use Rattle.check_operations.specs.Inner.Chains.{in_order}
use Rattle.format_translation.proofs.Codec.{translation_parts}
use Rattle.format_translation.proofs.Found.{cut, cut_is, rest_is, parted}
use Rattle.format_translation.proofs.Cuts.{parted_pieces, source_cut, target_cut}

-- check_kept
module _ (s : List ℕ) (over : Bool) (eo : over ≡ (ltb translation_limit (length s) || has_over is_language_tag language_limit s)) where
  pub over_refused : {o : Outcome} → over ≡ true → o ≡ Err Why.TooLong → o ≡ check_translation s
  unfolding check_translation translation_of
  over_refused h i = cc

  pub over_none : {A : Type 0} → over ≡ true → (f : Translation) → translation_of s ≡ value f → A
  unfolding translation_of
  over_none h f e = let d : translation_of s ≡ refused Why.TooLong = cc in refused_value (sym d ∙ e)

  module _ (within : over ≡ false) where
    chain_of : translation_of s ≡ (whole (parts_of s) >>= in_order)
    unfolding translation_of
    chain_of = cc

    chain : check_translation s ≡ checked (whole (parts_of s) >>= in_order)
    unfolding check_translation
    chain = ap checked chain_of

    module _ (there : Bool) (et : there ≡ is_some (parts_of s)) where
      absent : (p : Option Translation) → parts_of s ≡ p → is_some p ≡ false → checked (whole (parts_of s) >>= in_order) ≡ Err Why.BrokenField
      absent none e h = rw e
      absent (some f) e h = false_true (sym h)

      pub broken_refused : {o : Outcome} → there ≡ false → o ≡ Err Why.BrokenField → o ≡ check_translation s
      broken_refused h i = i ∙ sym (chain ∙ absent (parts_of s) refl (sym et ∙ h))

      pub broken_none : {A : Type 0} → there ≡ false → (f : Translation) → translation_of s ≡ value f → A
      broken_none h f e = false_true (sym h ∙ (et ∙ ap is_some (translation_parts s f e)))

      pub parts_there : there ≡ true → (f : Translation) × (parts_of s ≡ some f)
      parts_there h = some_is (parts_of s) (sym et ∙ h)

    -- the parts that are lent
    module _ (a : ℕ) (ea : a ≡ field_end s 0) (b : ℕ) (eb : b ≡ field_end s a) (f : Translation) (e : parts_of s ≡ some f) where
      limits : (length s ≤ 4096) × (has_over is_language_tag language_limit s ≡ false)
      limits =
          let r = or_false (ltb translation_limit (length s)) (has_over is_language_tag language_limit s) (sym eo ∙ within) in
          (ltb-false translation_limit (length s) r.0, r.1)

      pub pieces : Pieces (cut s 3 a) (cut s (a + 3) b) (cut s b (length s)) f
      pieces =
          let w = parted s a ea b eb f e in
          let j = w.target_past in
          let k = w.inside in
          rw (cut_is s 3 a w.source_past (omega arith), cut_is s (a + 3) b j k, rest_is s b)
          (parted_pieces s a b f w limits.1 limits.0)

      pub pieces_checked : {o : Outcome} → o ≡ checked (in_order f) → o ≡ check_translation s
      pieces_checked h = h ∙ sym (chain ∙ rw e)

    -- what was made for them, where the translation is accepted
    module _ (a : ℕ) (ea : a ≡ field_end s 0) (b : ℕ) (eb : b ≡ field_end s a) (x u : List ℕ)
        (made : (f : Translation) → Pieces (cut s 3 a) (cut s (a + 3) b) (cut s b (length s)) f → in_order f ≡ value f
        → Built 0x11 (cut s 3 a) x 0 × Built 0x11 (cut s (a + 3) b) x 8224 × Mapped u f.body) where
      pub pieces_made : (f : Translation) → translation_of s ≡ value f → Built 0x11 (source_in s) x 0 × Built 0x11 (target_in s) x 8224 × Mapped u f.body
      pieces_made f e =
          let p : parts_of s ≡ some f = translation_parts s f e in
          let v : in_order f ≡ value f = sym (chain_of ∙ rw p) ∙ e in
          let m = made f (pieces a ea b eb f p) v in
          (rw (← source_cut s (f, e) a ea) m.0, rw (← target_cut s (f, e) a ea b eb) m.1, m.2)
