-- A law for each return, and for each turn of a loop, of the functions on entries.
use Prim.Native.Nat.{ℕ, zero, suc, ◌+◌, ◌<◌, ◌≤◌}
use mathlib.Core.Path.{◌≡◌, refl}
use mathlib.Core.Bool.{Bool, true, false, not}
use mathlib.Core.List.{List}
use native.Mathlib.Omega.{arith}
use lib.ListN.{get_or}
use lib.Seq.{slice}
use lib.Dec.{ltb, leb, eqb}
use borrow.Author.Tests.{lt-ltb, le-ltb, le-leb, lt-leb, eq-eqb, ne_eqb}
use Rattle.format_fields.specs.Lists.{all}
use Rattle.format_fields.specs.Fields.{pair_at}
use Rattle.format_fields.specs.Inner.Places.{field_end, is_whole, WholeEnd}
use Rattle.format_fields.proofs.Truth.{false_true}
use Rattle.format_fields.proofs.Places.{end_whole}
use Rattle.format_language.specs.LanguageFile.{is_kind}
use Rattle.format_language.specs.Inner.Entries.{size_at, step_at, step_whole, class_whole, production_whole, entry_good, entry_whole}

-- A number that is not 0 is above it.
not_zero : (n : ℕ) → not (eqb n 0) ≡ ltb 0 n
not_zero zero = refl
not_zero (suc n) = let h : suc n ≡ 0 → ⊥ = λ e. omega arith in rw (ne_eqb (suc n) 0 h, lt-ltb 0 (suc n) (omega arith)) refl

-- step_whole: n is the length of the contents
module _ (s : List ℕ) (p n : ℕ) (en : n ≡ size_at s p) where
  pub step_five : n ≡ 5 → (true ≡ step_whole s p) × (true ≡ true → 5 ≤ n)
  unfolding step_whole step_at
  step_five h = (cc (eq-eqb n 5 h), λ e. omega arith)

  module _ (other : n ≡ 5 → ⊥) where
    pub step_none : (n ≡ 7 → ⊥) → (false ≡ step_whole s p) × (false ≡ true → 5 ≤ n)
    unfolding step_whole
    step_none h = (cc (ne_eqb n 5 other, ne_eqb n 7 h), λ e. false_true e)

    pub step_seven : n ≡ 7 → (x : ℕ) → x ≡ pair_at s (p + 8) → (not (eqb x 0) ≡ step_whole s p) × (not (eqb x 0) ≡ true → 5 ≤ n)
    unfolding step_whole step_at
    step_seven h x ex = (cc (ne_eqb n 5 other, eq-eqb n 7 h, not_zero x), λ e. omega arith)

-- class_whole and production_whole: n is the length of the contents, k the first byte of it
module _ (s : List ℕ) (p n k : ℕ) (en : n ≡ size_at s p) (ek : k ≡ get_or s (p + 3) 0) where
  pub class_step : step_whole s p ≡ false → false ≡ class_whole s p
  unfolding class_whole
  class_step h = rw h

  pub class_kind : step_whole s p ≡ true → 32 ≤ k → false ≡ class_whole s p
  unfolding class_whole
  class_kind h j = cc (h, le-ltb k 32 j)

  pub class_range_lem : step_whole s p ≡ true → k < 32 → (x y : ℕ) → x ≡ pair_at s (p + 4) → y ≡ pair_at s (p + 6) → leb x y ≡ class_whole s p
  unfolding class_whole
  class_range_lem h j x y ex ey = cc (h, lt-ltb k 32 j)

  pub production_short : n < 2 → false ≡ production_whole s p
  unfolding production_whole
  production_short h = cc (lt-leb 2 n h)

  pub production_long : 2 ≤ n → 10 < n → false ≡ production_whole s p
  unfolding production_whole
  production_long h j = cc (le-leb 2 n h, lt-leb n 10 j)

  pub production_kind : 2 ≤ n → n ≤ 10 → 32 ≤ k → false ≡ production_whole s p
  unfolding production_whole
  production_kind h j i = cc (le-leb 2 n h, le-leb n 10 j, le-ltb k 32 i)

  pub production_kinds : 2 ≤ n → n ≤ 10 → k < 32 → (x : Bool) → x ≡ all is_kind (slice (p + 5) (p + 3 + n) s) → x ≡ production_whole s p
  unfolding production_whole field_end
  production_kinds h j i x ex = cc (le-leb 2 n h, le-leb n 10 j, lt-ltb k 32 i)

-- entry_good
module _ (s : List ℕ) (p tag : ℕ) (et : tag ≡ get_or s p 0) where
  pub good_class : tag ≡ 0x11 → (x : Bool) → x ≡ class_whole s p → x ≡ entry_good s p
  unfolding entry_good
  good_class h x ex = cc (eq-eqb tag 0x11 h)

  module _ (other : tag ≡ 0x11 → ⊥) where
    pub good_production : tag ≡ 0x12 → (x : Bool) → x ≡ production_whole s p → x ≡ entry_good s p
    unfolding entry_good
    good_production h x ex = cc (ne_eqb tag 0x11 other, eq-eqb tag 0x12 h)

    pub good_neither : (tag ≡ 0x12 → ⊥) → false ≡ entry_good s p
    unfolding entry_good
    good_neither h = cc (ne_eqb tag 0x11 other, ne_eqb tag 0x12 h)

-- entries_whole
module _ (s : List ℕ) (p : ℕ) where
  pub entry_cut : is_whole s p ≡ false → false ≡ entry_whole s p
  unfolding entry_whole
  entry_cut h = rw h

  pub entry_is : (e : ℕ) → WholeEnd s p e → (x : Bool) → x ≡ entry_good s p → x ≡ entry_whole s p
  unfolding entry_whole
  entry_is e w x ex = rw (end_whole s p e w) ex
