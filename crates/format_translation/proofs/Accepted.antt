-- What a translation that was accepted holds.
use Rattle.std.specs.Prelude.{Err, Ok}
use Prim.Native.Nat.{ℕ, ◌≤◌}
use mathlib.Core.Path.{◌≡◌, refl, sym, ◌∙◌}
use mathlib.Core.List.{List}
use mathlib.Core.Option.{some}
use native.Mathlib.Omega.{arith}
use lib.ListN.{length}
use Rattle.outcome.specs.Outcome.{Result, value, refused, checked, Outcome}
use Rattle.outcome.specs.declared.Reason.{Reason}
use Rattle.format_translation.specs.Translation.{Translation}
use Rattle.format_translation.specs.TranslationFile.{parts_of, translation_of}
use Rattle.format_translation.specs.Operations.{check_translation}
use Rattle.format_translation.proofs.Codec.{translation_parts}
use Rattle.format_translation.proofs.Cuts.{accepted_short}

pub record Accepts (s : List ℕ) : Type 0 where
  pub translation : Translation
  pub is : translation_of s ≡ value translation
  pub parts : parts_of s ≡ some translation
  pub short : length s ≤ 4096

pub refused_not : {A : Type 0} {n : ℕ} {r : Reason} → Err r ≡ Ok n → A
refused_not y = let z : ◌≡◌ {A = ℕ} 0 1 = cc in absurd (omega arith)

pub accepts : (s : List ℕ) {o : Outcome} {n : ℕ} → o ≡ check_translation s → o ≡ Ok n → Accepts s
unfolding check_translation
accepts s {o} {n} e h = go (translation_of s) refl (sym e ∙ h)
  where
    go : (r : Result Translation) → translation_of s ≡ r → checked r ≡ Ok n → Accepts s
    go (value f) d y = record { translation = f; is = d; parts = translation_parts s f d; short = accepted_short s f d }
    go (refused r) d y = refused_not {n = n} {r = r} y
