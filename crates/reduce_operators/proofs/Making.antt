-- A translation made of a source, a target and a body: a law for each return.
use Rattle.std.specs.Prelude.{Err, Ok}
use Prim.Native.Nat.{ℕ, ◌≤◌, ◌<◌}
use mathlib.Core.Path.{◌≡◌, refl, sym, ap, ◌∙◌}
use mathlib.Core.Bool.{true}
use mathlib.Core.List.{List}
use mathlib.Core.Option.{some}
use native.Mathlib.Omega.{arith}
use lib.ListN.{length}
use lib.Dec.{ltb}
use Rattle.outcome.specs.Outcome.{Result, value, refused, refuse_if, checked, Outcome}
use Rattle.outcome.specs.declared.Reason.{Reason}
use Rattle.outcome.specs.declared.Reason.TheVariants.{ValueTooLarge}
use Rattle.format_fields.specs.Fields.{byte_at}
use Rattle.format_fields.specs.Keyed.{rising}
use Rattle.format_fields.proofs.Truth.{all_mem}
use Rattle.format_fields.proofs.Keyed.{is_rising}
use Rattle.format_language.specs.Language.{Language}
use Rattle.format_translation.specs.Translation.{Body, Translation, item_key}
use Rattle.format_translation.specs.TranslationFile.{body_of, all_rising}
use Rattle.format_translation.specs.WellFormed.{well_formed}
use Rattle.format_translation.specs.Inner.Pieces.{Pieces}
use Rattle.format_translation.proofs.Codec.{item_whole, body_whole, body_sound}
use Rattle.reduce_operators.specs.Inner.Values.{exact_language, translation_bytes, Gives}
use Rattle.reduce_operators.proofs.Proper.{good_proper, formed_sound}
use Rattle.reduce_operators.specs.Inner.Assembled.{assembled}
use Rattle.reduce_operators.proofs.Given.{gives_refused}
use Rattle.reduce_operators.proofs.Accepted.{slice_bytes, exact_good, language_entries, language_short, language_written, assembled_given}

-- What an outcome of a check says.
refused_is : {A : Type 0} (x : Result A) (r : Reason) → checked x ≡ Err r → x ≡ refused r
refused_is (value a) r e = let z : ◌≡◌ {A = ℕ} 0 1 = cc in absurd (omega arith)
refused_is (refused q) r e = let z : q ≡ r = cc in ap refused z

value_is : {A : Type 0} (x : Result A) (n : ℕ) → checked x ≡ Ok n → (a : A) × (x ≡ value a)
value_is (value a) n e = (a, refl)
value_is (refused q) n e = let z : ◌≡◌ {A = ℕ} 0 1 = cc in absurd (omega arith)

-- The translation of these parts.
abbrev pub made_of : Language → Language → Body → Translation
made_of l m b = record { source = l; target = m; body = b }

module _ (s t x : List ℕ) (l m : Language) (b : Body) (es : exact_language s ≡ value l) (et : exact_language t ≡ value m) (ex : body_of x ≡ some b) where
  pub made_pieces : length x ≤ 32768 → Pieces s t x (made_of l m b)
  made_pieces h = record {
    source = language_entries s l es;
    target = language_entries t m et;
    body = ex;
    source_short = language_short s l es;
    target_short = language_short t m et;
    body_short = h;
  }

  pub made_rises : rising item_key b ≡ true → all_rising (made_of l m b) ≡ true
  unfolding all_rising
  made_rises h = rw ((exact_good s l es).rises, (exact_good t m et).rises, h)

  module _ (o : Outcome) (eo : o ≡ checked (well_formed (made_of l m b))) where
    pub make_refused : (r : Reason) → o ≡ Err r → (out : List ℕ) → Gives (translation_bytes (well_formed (made_of l m b))) out out (Err r)
    make_refused r h out =
        let z : well_formed (made_of l m b) ≡ refused r = refused_is (well_formed (made_of l m b)) r (sym eo ∙ h) in
        gives_refused _ out out r (rw z refl) refl

    pub make_given : rising item_key b ≡ true → ((i : ℕ) → byte_at x i < 256)
        → (n : ℕ) → o ≡ Ok n → (out out' : List ℕ) (r : Outcome)
        → Gives (refuse_if (ltb 4096 (length (assembled s t x))) ValueTooLarge (value (assembled s t x))) out out' r
        → Gives (translation_bytes (well_formed (made_of l m b))) out out' r
    make_given rises bx n h out out' r g =
        let f = made_of l m b in
        let y = exact_good s l es in
        let z = exact_good t m et in
        let v = value_is (well_formed f) n (sym eo ∙ h) in
        let w = formed_sound f v.0 (good_proper l y) (good_proper m z) (all_mem item_whole b (body_whole x b ex).0) (is_rising item_key b rises) v.1 in
        let q : well_formed f ≡ value f = v.1 ∙ ap value (sym w.1) in
        rw q
        (assembled_given f w.0 y.short z.short s t x out out' r
        (language_written s l es) (language_written t m et) (body_sound x b ex (slice_bytes x bx)) g)
