-- A law for each return of the functions that look at a clause and at what a kind maps to.
use Prim.Native.Nat.{ℕ, zero, suc, ◌+◌, ◌-◌, ◌*◌, ◌<◌}
use mathlib.Core.Path.{◌≡◌, refl, ◌∙◌}
use mathlib.Core.List.{List}
use mathlib.Core.Option
use native.Mathlib.Omega.{arith}
use lib.ListN.{get_or}
use borrow.Author.Tests.{lt-ltb, eq-eqb, ne_eqb}
use Rattle.tree_reader.specs.Inner.Positions.{kind_before, mapped_in}
use Rattle.format_translation.specs.Translation.{Body, mapping_of, mapped}
use Rattle.format_translation.specs.Inner.Items.{code_start, clause_number}
use Rattle.format_translation.specs.Inner.ItemIndex.{Mapped, mapped_by}

-- clause_number and code_start
module _ (b : List ℕ) (p : ℕ) where
  pub with_number : get_or b p 0 ≡ 0x29 → (x : ℕ) → x ≡ get_or b (p + 5) 0 → x ≡ clause_number b p
  unfolding clause_number
  with_number h x e = cc (eq-eqb _ _ h)

  pub no_number : (get_or b p 0 ≡ 0x29 → ⊥) → 0 ≡ clause_number b p
  unfolding clause_number
  no_number h = cc (ne_eqb _ _ h)

  pub start_with : get_or b p 0 ≡ 0x29 → p + 6 ≡ code_start b p
  unfolding code_start
  start_with h = cc (eq-eqb _ _ h)

  pub start_without : (get_or b p 0 ≡ 0x29 → ⊥) → p + 5 ≡ code_start b p
  unfolding code_start
  start_without h = cc (ne_eqb _ _ h)

-- mapped_by
module _ (u : List ℕ) {k j i n x : ℕ} (ei : i ≡ k) (en : n ≡ j) (ex : x ≡ get_or u (i * 256 + n) 0) where
  pub mapped_there : x - 1 ≡ mapped_by u k j
  unfolding mapped_by
  mapped_there = rw (ex, ei, en) refl

  pub mapped_none : x ≡ 0 → 0 ≡ mapped_by u k j
  mapped_none h = let z : 0 ≡ x - 1 = omega arith in z ∙ mapped_there

-- What is looked up is what the kind maps to.
pub mapped_is : (u : List ℕ) (m : Body) → Mapped u m → (k j : ℕ) → k < 32 → j < 256 → mapped_by u k j ≡ mapped m k j
unfolding mapped_by mapped mapped_in
mapped_is u m z k j h i = go (get_or u (k * 256 + j) 0) refl
  where
    told : kind_before (get_or u (k * 256 + j) 0) ≡ mapping_of m k j
    told = rw (lt-ltb j 256 i) at (z.is k j h i)

    go : (x : ℕ) → get_or u (k * 256 + j) 0 ≡ x → get_or u (k * 256 + j) 0 - 1 ≡ Option.get_or (mapping_of m k j) 0
    go zero q = rw (← told, q) refl
    go (suc x) q = let y : suc x - 1 ≡ x = omega arith in rw (← told, q, y) refl
