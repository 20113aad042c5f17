-- The operators on languages in their own bytes: a law for each return.
use Rattle.std.specs.Prelude.{Err, Option}
use Prim.Native.Nat.{ℕ, ◌≤◌}
use mathlib.Core.Path.{◌≡◌, refl, sym, ap, subst, ◌∙◌}
use mathlib.Core.Bool.{Bool, true, false}
use mathlib.Core.List.{List}
use lib.ListN.{length}
use Rattle.outcome.specs.Outcome.{value, Outcome}
use Rattle.outcome.specs.declared.Reason.TheVariants.{SumUnfit}
use Rattle.format_language.specs.Language.{Language}
use Rattle.format_language.specs.LanguageFile.{encode_language}
use Rattle.format_language.specs.Inner.Entries.{RisingEntries}
use Rattle.reduce_operators.specs.Operators.{languages_fit, language_union, language_sum, language_without}
use Rattle.format_fields.specs.Inner.Writing.{Stores}
use Rattle.reduce_merge.specs.Inner.Parts.{Sorted, united, removed, fit_together}
use Rattle.reduce_operators.specs.Inner.Values.{exact_language, language_bytes, Gives}
use Rattle.reduce_operators.proofs.Encoded.{sorted_language, rising_language, united_languages, removed_language, languages_fit_lem}
use Rattle.reduce_operators.specs.Inner.Assembled.{limited}
use Rattle.reduce_operators.proofs.Given.{gives_refused}
use Rattle.reduce_operators.proofs.Accepted.{exact_good, language_written, language_copied}

-- The fields of a language rise.
pub language_sorted : (a : List ℕ) (l : Language) → exact_language a ≡ value l → Sorted 0x11 a
language_sorted a l e = subst (Sorted 0x11) (sym (language_written a l e)) (sorted_language l l (exact_good a l e).rises)

-- It is whole entries whose keys rise.
pub language_rises : (a : List ℕ) (l : Language) → exact_language a ≡ value l → RisingEntries a
language_rises a l e =
    let g = exact_good a l e in
    subst RisingEntries (sym (language_written a l e)) (rising_language l g.whole g.rises)

module _ (a b : List ℕ) (l m : Language) (e : exact_language a ≡ value l) (d : exact_language b ≡ value m) where
  fit_is : fit_together a b ≡ languages_fit l m
  fit_is =
      ap (λ (x : List ℕ). fit_together x b) (language_written a l e)
      ∙ (ap (fit_together (encode_language l)) (language_written b m d)
      ∙ languages_fit_lem l m (exact_good a l e).whole (exact_good b m d).whole)

  union_is : united 0x11 a b ≡ encode_language (language_union l m)
  union_is =
      ap (λ (x : List ℕ). united 0x11 x b) (language_written a l e)
      ∙ (ap (united 0x11 (encode_language l)) (language_written b m d) ∙ united_languages l m)

  removed_is : removed 0x11 a b ≡ encode_language (language_without l m)
  removed_is =
      ap (λ (x : List ℕ). removed 0x11 x b) (language_written a l e)
      ∙ (ap (removed 0x11 (encode_language l)) (language_written b m d) ∙ removed_language l m)

  pub sum_unfit : (fit : Bool) → fit ≡ fit_together a b → fit ≡ false → (o : List ℕ) → Gives (language_bytes (language_sum l m)) o o (Err SumUnfit)
  unfolding language_sum
  sum_unfit fit q t o =
      let z : languages_fit l m ≡ false = sym fit_is ∙ (sym q ∙ t) in
      gives_refused (language_bytes (language_sum l m)) o o SumUnfit (rw z refl) refl

  module _ (o o' : List ℕ) (long : length o' ≡ length o) (room : 1024 ≤ length o) (x : Option ℕ) (r : Outcome) (answer : r ≡ limited 1024 x) where
    pub sum_given : (fit : Bool) → fit ≡ fit_together a b → fit ≡ true → Stores (united 0x11 a b) o o' 0 x
        → Gives (language_bytes (language_sum l m)) o o' r
    unfolding language_sum
    sum_given fit q t w =
        let z : languages_fit l m ≡ true = sym fit_is ∙ (sym q ∙ t) in
        rw z (language_copied o o' long x r (language_union l m) (united 0x11 a b) union_is room w answer)

    pub without_given : Stores (removed 0x11 a b) o o' 0 x → Gives (language_bytes (value (language_without l m))) o o' r
    without_given w = language_copied o o' long x r (language_without l m) (removed 0x11 a b) removed_is room w answer
