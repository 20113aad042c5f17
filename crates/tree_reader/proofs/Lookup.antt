-- The index that is built: the code's turns, and what a lookup through it gives.
use Prim.Native.Nat.{ℕ, zero, suc, ◌+◌, ◌-◌, ◌<◌, ◌≤◌}
use mathlib.Core.Path.{◌≡◌, refl, sym, ap}
use mathlib.Core.List.{List}
use mathlib.Core.Option.{none, some}
use native.Mathlib.Omega.{arith}
use lib.ListN.{length, get_or, set, replicate, length-set, get_or-replicate, length-replicate, get_or-eq_default}
use lib.Seq.{set_out}
use lib.Dec.{ltb, eqb}
use borrow.Author.Tests.{eq-eqb, ne_eqb, ltb-true, ltb-false}
use Rattle.format_fields.specs.Inner.Places.{field_end, places_from, slot_at}
use Rattle.format_fields.proofs.Truth.{by_test, none_some}
use Rattle.format_fields.proofs.Places.{pass_done, pass_next}
use Rattle.format_language.specs.Language.{Range}
use Rattle.format_language.specs.Inner.Entries.{class_range}
use Rattle.tree_reader.specs.Inner.Index.{put_at, put_all, range_before, arguments_before}

-- put
module _ (index : List ℕ) (key v : ℕ) where
  pub put_out_lem : length index ≤ key → index ≡ put_at index key v
  unfolding put_at
  put_out_lem h = cc (get_or-eq_default {A = ℕ} index 0 {n = key} h, eq-eqb 0 0 refl, set_out index key v h)

  pub put_not : (get_or index key 0 ≡ 0 → ⊥) → index ≡ put_at index key v
  unfolding put_at
  put_not h = cc (ne_eqb _ _ h)

  pub put_in : get_or index key 0 ≡ 0 → set index key v ≡ put_at index key v
  unfolding put_at
  put_in h = cc (eq-eqb _ _ h)

  pub put_length : length (put_at index key v) ≡ length index
  unfolding put_at
  put_length = by_test (eqb (get_or index key 0) 0) (λ e. cc (length-set index key v)) (λ e. cc)

-- put_all
module _ (first : ℕ) (s : List ℕ) (p : ℕ) (index x : List ℕ) (inv : put_all first s index (places_from s p) ≡ x) where
  pub puts_done : length s ≤ p → index ≡ x
  unfolding put_all
  puts_done h = pass_done (put_all first s index) s p x inv h

  pub puts_next : (more : List ℕ) (key v end : ℕ) → more ≡ put_at index key v → key ≡ slot_at first s p → v ≡ p + 1 → end ≡ field_end s p → p < length s
      → put_all first s more (places_from s end) ≡ x
  unfolding put_all
  puts_next more key v end em ek ev ee here = rw (em, ek, ev) (pass_next (put_all first s index) s p x inv end here ee)

-- A fresh array.
pub zeros : (n j : ℕ) → ◌≡◌ {A = ℕ} (get_or (replicate n 0) j 0) 0
zeros n j =
    by_test (ltb j n)
    (λ e. get_or-replicate n j 0 0 (ltb-true _ _ e))
    (λ e. get_or-eq_default {A = ℕ} (replicate n 0) 0 {n = j} (rw length-replicate (ltb-false _ _ e)))

-- A place of the index is 0 exactly if there is no such entry.
module _ (s : List ℕ) where
  pub no_range : (place : ℕ) → range_before s place ≡ none → place ≡ 0
  no_range zero e = refl
  no_range (suc p) e = none_some (sym e)

  pub some_range : (place : ℕ) {c : Range} → range_before s place ≡ some c → 0 < place
  some_range zero e = none_some e
  some_range (suc p) e = omega arith

  pub range_none : (place : ℕ) → place ≡ 0 → range_before s place ≡ none
  range_none zero e = refl
  range_none (suc p) e = absurd (omega arith)

  pub range_some : (place : ℕ) → 0 < place → range_before s place ≡ some (class_range s (place - 1))
  range_some zero e = absurd (omega arith)
  range_some (suc p) e = let z : p ≡ suc p - 1 = omega arith in ap (λ (m : ℕ). some (class_range s m)) z

  pub arguments_none : (place : ℕ) → place ≡ 0 → arguments_before s place ≡ none
  arguments_none zero e = refl
  arguments_none (suc p) e = absurd (omega arith)

  pub arguments_some : (place : ℕ) → 0 < place → (ks : List ℕ) × (arguments_before s place ≡ some ks)
  arguments_some zero e = absurd (omega arith)
  arguments_some (suc p) e = (_, refl)
