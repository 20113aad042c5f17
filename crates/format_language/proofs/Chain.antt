-- The chain of tests of `check_language`: a law for each return of `check_language`.
use Rattle.std.specs.Prelude.{Err, Ok}
use Prim.Native.Nat.{ℕ, ◌<◌, ◌≤◌}
use mathlib.Core.Path.{◌≡◌, refl, sym, ◌∙◌}
use mathlib.Core.Bool.{Bool, true, false, not}
use mathlib.Core.List.{List}
use mathlib.Core.Option.{Option, none, some}
use lib.ListN.{length}
use borrow.Author.Tests.{lt-ltb, le-ltb}
use Rattle.outcome.specs.Outcome.{refuse_if, value, checked}
use Rattle.outcome.specs.declared.Reason.TheVariants.{TooLong, BrokenField, OutOfOrder, ClassIsResult}
use Rattle.format_fields.specs.Lists.{is_some}
use Rattle.format_fields.specs.Keyed.{rising}
use Rattle.format_fields.specs.Inner.Places.{places, key_at}
use Rattle.format_fields.proofs.Truth.{false_true, some_is}
use Rattle.format_fields.proofs.Lists.{rising_map}
use Rattle.format_language.specs.Language.{Language, entry_key}
use Rattle.format_language.specs.LanguageFile.{entries_of, language_of}
use Rattle.format_language.specs.Operations.{check_language}
use Rattle.format_language.specs.Inner.Entries.{entry_at, Holds, result_is_class}
use Rattle.format_language.proofs.Holds.{holds_entries}
use Rattle.format_language.proofs.Facts.{key_is}
use Rattle.format_language.proofs.Clashes.{clash_is}

-- A file of entries l has rising keys if l has.
pub rising_is : (s : List ℕ) (l : Language) → Holds s l → rising (key_at 0x11 s) (places s) ≡ rising entry_key l
unfolding rising
rising_is s l h = rw (← h.entries) (sym (rising_map entry_key (entry_at s) (key_at 0x11 s) (key_is s) 0 (places s)))

module _ (s : List ℕ) where
  pub too_long : 1024 < length s → Err TooLong ≡ check_language s
  unfolding check_language language_of
  too_long h = cc (lt-ltb 1024 (length s) h)

  module _ (short : length s ≤ 1024) (there-is : Bool) (et : there-is ≡ is_some (entries_of s)) where
    absent : (o : Option Language) → entries_of s ≡ o → is_some o ≡ false → Err BrokenField ≡ check_language s
    unfolding check_language language_of
    absent none e h = cc (le-ltb 1024 (length s) short)
    absent (some l) e h = false_true (sym h)

    pub broken : there-is ≡ false → Err BrokenField ≡ check_language s
    broken h = absent (entries_of s) refl (sym et ∙ h)

    module _ (whole : there-is ≡ true) (rise : Bool) (er : rise ≡ rising (key_at 0x11 s) (places s)) where
      rest : (l : Language) → entries_of s ≡ some l
          → checked (refuse_if (not rise) OutOfOrder (refuse_if (result_is_class s) ClassIsResult (value l))) ≡ check_language s
      unfolding check_language language_of
      rest l e =
          let h = holds_entries s l e in
          cc (le-ltb 1024 (length s) short, rising_is s l h, clash_is s l h)

      -- what is left of the chain, for the entries that the file holds
      left : {A : Type 0}
          → ((l : Language) → checked (refuse_if (not rise) OutOfOrder (refuse_if (result_is_class s) ClassIsResult (value l))) ≡ check_language s → A)
          → A
      left f = let r = some_is (entries_of s) (sym et ∙ whole) in f r.0 (rest r.0 r.1)

      pub out_of_order : rise ≡ false → Err OutOfOrder ≡ check_language s
      out_of_order h = left (λ l e. rw h at e)

      module _ (rises : rise ≡ true) (both : Bool) (eb : both ≡ result_is_class s) where
        pub clash : both ≡ true → Err ClassIsResult ≡ check_language s
        clash h = left (λ l e. rw (rises, ← eb, h) at e)

        pub accepted : both ≡ false → Ok 0 ≡ check_language s
        accepted h = left (λ l e. rw (rises, ← eb, h) at e)
