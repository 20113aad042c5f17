-- The signs that begin no term of a sort.
use Prim.Native.Nat.{ℕ}
use mathlib.Core.Path.{◌≡◌, refl, sym, ◌∙◌}
use mathlib.Core.Bool.{Bool, true, false}
use mathlib.Core.List.{List, ◌∷◌}
use mathlib.Core.Option.{none}
use lib.Dec.{eqb}
use borrow.Author.Tests.{ne_eqb}
use Rattle.format_fields.proofs.Truth.{false_true}
use Rattle.format_pack.specs.Terms.{Sort, languages, translations, Term, Parse, language_sign, translation_sign, read_sign}

-- A sign that is not this one.
skip : {A : Type 0} (b c : ℕ) (x y : A) → (b ≡ c → ⊥) → elim (eqb b c) [ true ↦ x | false ↦ y ] ≡ y
skip {A} b c x y h = go (eqb b c) (ne_eqb b c h)
  where
    go : (t : Bool) → t ≡ false → elim t [ true ↦ x | false ↦ y ] ≡ y
    go true e = false_true (sym e)
    go false e = refl

-- No other sign is that of a language term.
pub no_language_sign : (reads : (s : Sort) → List ℕ → Parse (Term s)) (b : ℕ) (bytes : List ℕ)
    → ((((((((Unit {0} × (b ≡ 0x40 → ⊥)) × (b ≡ 0x41 → ⊥)) × (b ≡ 0x42 → ⊥)) × (b ≡ 0x43 → ⊥)) × (b ≡ 0x44 → ⊥)) × (b ≡ 0x45 → ⊥)) × (b ≡ 0x46 → ⊥)) × (b ≡ 0x47 → ⊥))
    → read_sign reads languages (b ∷ bytes) ≡ none
unfolding read_sign language_sign
no_language_sign reads b bytes r =
    skip b 0x40 _ _ r.0.0.0.0.0.0.0.1 ∙ (skip b 0x41 _ _ r.0.0.0.0.0.0.1 ∙ (skip b 0x42 _ _ r.0.0.0.0.0.1 ∙ (skip b 0x43 _ _ r.0.0.0.0.1
    ∙ (skip b 0x44 _ _ r.0.0.0.1 ∙ (skip b 0x45 _ _ r.0.0.1 ∙ (skip b 0x46 _ _ r.0.1 ∙ skip b 0x47 _ _ r.1))))))

-- No other sign is that of a translation term.
pub no_translation_sign : (reads : (s : Sort) → List ℕ → Parse (Term s)) (b : ℕ) (bytes : List ℕ)
    → ((((((((Unit {0} × (b ≡ 0x50 → ⊥)) × (b ≡ 0x51 → ⊥)) × (b ≡ 0x52 → ⊥)) × (b ≡ 0x53 → ⊥)) × (b ≡ 0x54 → ⊥)) × (b ≡ 0x55 → ⊥)) × (b ≡ 0x56 → ⊥)) × (b ≡ 0x57 → ⊥))
    → read_sign reads translations (b ∷ bytes) ≡ none
unfolding read_sign translation_sign
no_translation_sign reads b bytes r =
    skip b 0x50 _ _ r.0.0.0.0.0.0.0.1 ∙ (skip b 0x51 _ _ r.0.0.0.0.0.0.1 ∙ (skip b 0x52 _ _ r.0.0.0.0.0.1 ∙ (skip b 0x53 _ _ r.0.0.0.0.1
    ∙ (skip b 0x54 _ _ r.0.0.0.1 ∙ (skip b 0x55 _ _ r.0.0.1 ∙ (skip b 0x56 _ _ r.0.1 ∙ skip b 0x57 _ _ r.1))))))
