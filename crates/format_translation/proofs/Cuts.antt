-- The parts of a translation that was accepted: where they are cut out, and what they hold.
use Prim.Native.Nat.{ℕ, ◌+◌, ◌<◌, ◌≤◌}
use mathlib.Core.Path.{◌≡◌, refl, ◌∙◌}
use mathlib.Core.Bool.{false}
use mathlib.Core.List.{List}
use native.Mathlib.Omega.{arith}
use lib.ListN.{length, drop, length-drop}
use lib.Seq.{slice}
use Rattle.format_fields.specs.Fields.{has_over}
use Rattle.format_fields.specs.Inner.Places.{field_end}
use Rattle.outcome.specs.Outcome.{value}
use Rattle.format_language.specs.LanguageFile.{language_limit}
use Rattle.format_translation.specs.Translation.{Translation}
use Rattle.format_translation.specs.TranslationFile.{is_language_tag, translation_of}
use Rattle.format_translation.specs.Inner.Parts.{Parted, source_in, target_in, body_in}
use Rattle.format_translation.specs.Inner.Pieces.{Pieces}
use Rattle.format_translation.proofs.Codec.{translation_parts, translation_within}
use Rattle.format_translation.proofs.Found.{heads_in, parted, cut, cut_is, rest_is}

-- Parts that are within the limits.
pub parted_pieces : (s : List ℕ) (a b : ℕ) (f : Translation) → Parted s a b f
    → has_over is_language_tag language_limit s ≡ false → length s ≤ 4096
    → Pieces (slice 3 a s) (slice (a + 3) b s) (drop b s) f
parted_pieces s a b f w within long =
    let short = w.short language_limit within in
    let last : length (drop b s) ≤ 32768 = simp length-drop (omega arith) in
    record {
      source = w.source;
      target = w.target;
      body = w.body;
      source_short = short.0;
      target_short = short.1;
      body_short = last;
    }

-- source_of, target_of and body_of
module _ (s : List ℕ) (h : (f : Translation) × (translation_of s ≡ value f)) (a : ℕ) (ea : a ≡ field_end s 0) where
  module _ (b : ℕ) (eb : b ≡ field_end s a) where
    pub parts_at : Parted s a b h.0
    parts_at = parted s a ea b eb h.0 (translation_parts s h.0 h.1)

    pub target_cut : cut s (a + 3) b ≡ target_in s
    unfolding target_in
    target_cut = let w = parts_at in cut_is s (a + 3) b w.target_past w.inside ∙ rw (eb, ea)

    pub body_cut : cut s b (length s) ≡ body_in s
    unfolding body_in
    body_cut = rest_is s b ∙ rw (eb, ea)

  pub source_at : (3 ≤ a) × (a ≤ length s)
  source_at = let w = parts_at (field_end s a) refl in (w.source_past, omega (arith, w.target_past, w.inside))

  pub heads_at : (0 + 2 < length s) × (a + 2 < length s)
  heads_at = heads_in s a ea (h.0, translation_parts s h.0 h.1)

  pub source_cut : cut s 3 a ≡ source_in s
  unfolding source_in
  source_cut = let w = source_at in cut_is s 3 a w.0 w.1 ∙ rw ea

-- What the three parts of an accepted translation hold.
module _ (s : List ℕ) (f : Translation) (e : translation_of s ≡ value f) where
  pub accepted_short : length s ≤ 4096
  accepted_short = (translation_within s f e).0

  pub pieces_in : Pieces (source_in s) (target_in s) (body_in s) f
  unfolding source_in target_in body_in
  pieces_in =
      let w = translation_within s f e in
      let p = parts_at s (f, e) (field_end s 0) refl (field_end s (field_end s 0)) refl in
      parted_pieces s (field_end s 0) (field_end s (field_end s 0)) f p w.1 w.0

  pub body_in_short : length (body_in s) ≤ 4096
  unfolding body_in
  body_in_short = let k = accepted_short in simp length-drop (omega arith)
