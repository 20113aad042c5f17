-- The rows that wait, the deepest first, each read on from where the one below it ended: what comes of them, whatever a reading
-- gives.
use Prim.Native.Nat.{ℕ, zero, suc, ◌<◌}
use mathlib.Core.Path.{◌≡◌, refl, ap, ◌∙◌}
use mathlib.Core.List.{List}
use native.Mathlib.Omega.{arith}

-- One reading behind another is `behind`; f says what comes of each row that waits.
module _ {A : Type 0} (behind : A → (List ℕ → A) → A) where
  unfoldable pub unwind_by : (ℕ → List ℕ → A) → ℕ → A → A
  unwind_by f zero x = x
  unwind_by f (suc d) x = unwind_by f d (behind x (f d))

  -- Where nothing is read behind it, it stays.
  pub unwind_stop : (f : ℕ → List ℕ → A) (d : ℕ) (x : A) → ((h : List ℕ → A) → behind x h ≡ x) → unwind_by f d x ≡ x
  unfolding unwind_by
  unwind_stop f zero x stops = refl
  unwind_stop f (suc d) x stops = ap (unwind_by f d) (stops (f d)) ∙ unwind_stop f d x stops

  pub unwind_none : (f : ℕ → List ℕ → A) (x : A) → unwind_by f 0 x ≡ x
  unfolding unwind_by
  unwind_none f x = refl

  pub unwind_one : (f : ℕ → List ℕ → A) (d : ℕ) (x : A) → unwind_by f (suc d) x ≡ unwind_by f d (behind x (f d))
  unfolding unwind_by
  unwind_one f d x = refl

  -- Only what stands at the rows that wait counts.
  pub unwind_same : (f g : ℕ → List ℕ → A) (d : ℕ) (x : A) → ((j : ℕ) → j < d → g j ≡ f j) → unwind_by g d x ≡ unwind_by f d x
  unfolding unwind_by
  unwind_same f g zero x same = refl
  unwind_same f g (suc d) x same =
      ap (λ (h : List ℕ → A). unwind_by g d (behind x h)) (same d (omega arith)) ∙ unwind_same f g d (behind x (f d)) (λ j h. same j (omega arith))
