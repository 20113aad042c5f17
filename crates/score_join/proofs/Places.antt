-- The row of a code's form: what `form_at` puts into a row of zeros.
use Rattle.std.specs.Prelude as Std
use Rattle.std.specs.Prelude.{Some, None}
use Prim.Native.Nat.{ℕ, zero, suc, ◌+◌, ◌<◌, ◌≤◌}
use mathlib.Core.Path.{◌≡◌, refl, sym, ap, ◌∙◌}
use mathlib.Core.Bool.{Bool, true, false, ◌&&◌}
use mathlib.Core.List.{List}
use native.Mathlib.Omega.{arith}
use lib.ListN.{get_or, take, replicate}
use Rattle.std.proofs.lemmas.List.{get_or-take}
use lib.Dec.{eqb}
use lib.IntN.{ℤ, pos, ◌+ℤ◌, ◌*ℤ◌, +ℤ_idl, *ℤ_comm, *ℤ-one}
use mir.Syntax.{w64}
use mir.Val.{to_z, of_z}
use borrow.Author.Tests.{eqb-true, eqb-false}
use Rattle.format_fields.specs.Lists.{all, count_up}
use Rattle.format_fields.proofs.Truth.{by_test}
use Rattle.tree_reader.specs.Code.{Code}
use Rattle.score_tree.specs.Figures.{is_figure}
use Rattle.score_tree.specs.Linear.{Loads, form}
use Rattle.score_tree.specs.Inner.Terms.{Adds}
use Rattle.score_tree.proofs.Integers.{back}
use Rattle.score_tree.proofs.Walking.{zero_at}
use Rattle.score_join.specs.Joined.{place_fits}

-- Numbers counted up, one of which does not pass.
and_out : (b : Bool) {c : Bool} → c ≡ false → (b && c) ≡ false
and_out true h = h
and_out false h = refl

all_out : (test : ℕ → Bool) (n i j : ℕ) → i ≤ j → j < i + n → test j ≡ false → all test (count_up n i) ≡ false
unfolding all count_up
all_out test zero i j h k f = absurd (omega arith)
all_out test (suc n) i j h k f = by_test (eqb i j)
    (λ q. let e = eqb-true i j q in rw (e, f) refl)
    (λ q. let d = eqb-false i j q in and_out (test i) (all_out test n (suc i) j (omega arith) (omega arith) f))

-- The first places of the form of code u, which ends at `end`, stand in a row that was 0 before.
abbrev pub RowOf : Loads → Code → ℕ → List ℤ → ℕ → Std.Option ℕ → Type 0
RowOf w u count row end r = Adds w u (pos 1) count (replicate 9 (pos 0)) row end r

abbrev pub place_of : List ℤ → ℕ → ℤ
place_of row j = get_or row j (pos 0)

module _ {w : Loads} {u : Code} {count : ℕ} {row : List ℤ} {end : ℕ} {r : Std.Option ℕ} (d : RowOf w u count row end r) where
  pub row_out : r ≡ None → all (place_fits w u) (count_up count 0) ≡ false
  unfolding place_fits
  row_out y = let (j, h, o) = d.outside y in all_out (place_fits w u) count 0 j (omega arith) (omega arith) (rw o refl)

  module _ (e : ℕ) (y : r ≡ Some e) where
    pub row_is : (j : ℕ) → j < count → place_of row j ≡ form w u j
    unfolding lib.IntN.one
    row_is j h =
        (d.done e y).2.sums j h
        ∙ (ap (λ (z : ℤ). z +ℤ pos 1 *ℤ form w u j) (zero_at 9 j) ∙ (+ℤ_idl (pos 1 *ℤ form w u j) ∙ (*ℤ_comm (pos 1) (form w u j) ∙ *ℤ-one (form w u j))))

    row_back : (j : ℕ) → j < count → to_z w64 (of_z w64 (place_of row j)) ≡ place_of row j
    row_back j h = let n = (d.done e y).2.near j h in back w64 (place_of row j) (rw (row_is j h) (omega arith))

    -- The same of the first places alone.
    pub row_read : (j : ℕ) → j < count → to_z w64 (of_z w64 (get_or (take count row) j (pos 0))) ≡ place_of row j
    row_read j h = rw (get_or-take count row j (pos 0) h) (row_back j h)

    -- z is what the machine reads of place j
    module _ (j : ℕ) (h : j < count) (z : ℤ) (ez : z ≡ place_of row j) where
      pub row_fits : (b : Bool) → is_figure z ≡ b → place_fits w u j ≡ b
      unfolding place_fits
      row_fits b f =
          let g : is_figure (form w u j) ≡ b = ap is_figure (sym (ez ∙ row_is j h)) ∙ f in
          rw ((d.done e y).1 j h) g
