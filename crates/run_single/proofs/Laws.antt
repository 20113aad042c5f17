-- One weight as the weights of number 0 alone: a window of one.
use Prim.Native.Nat.{ℕ, ◌+◌, ◌*◌, ◌≤◌}
use mathlib.Core.Path.{◌≡◌, refl, sym, ap, ◌∙◌}
use mathlib.Core.List.{List, [], ◌∷◌}
use native.Mathlib.Omega.{arith}
use lib.ListN.{length, get_or, set}
use lib.Dec.{ltb}
use borrow.Author.Tests.{ltb-true, ltb-false, eq-eqb, ne_eqb}
use Rattle.format_fields.proofs.Truth.{by_test}
use Rattle.run_measure.specs.Inner.Sizes.{capped}
use Rattle.run_measure.specs.Inner.Weighing.{Weights, window, weigh_at, sum_of, once_by}
use Rattle.run_measure.proofs.Sums.{weighted_pick, none_of}
use Rattle.run_measure.proofs.Windows.{window_in, window_out, weigh_one, first_weight}

-- A window of one weight is that weight for number 0, and none for others.
one_is : (ws : List ℕ) (i : ℕ) {x : ℕ} → get_or ws i 0 ≡ x → (j : ℕ) → window 1 ws i j ≡ once_by 0 j * x
unfolding window
one_is ws i e j =
    by_test (ltb j 1)
    (λ t.
    let l = ltb-true j 1 t in
    let z : i + j ≡ i = omega arith in
    rw (t, z, e, eq-eqb 0 j (omega arith)) (omega arith))
    (λ t. let l = ltb-false j 1 t in rw (t, ne_eqb 0 j (λ y. omega arith)) (omega arith))

pub same_weight : (ws vs : List ℕ) (i k : ℕ) {x : ℕ} → get_or ws i 0 ≡ x → get_or vs k 0 ≡ x → window 1 ws i ≡ window 1 vs k
same_weight ws vs i k e d = λ z j. (one_is ws i e j ∙ sym (one_is vs k d j)) z

-- weigh
pub weigh_is : (counts : List ℕ) (q : ℕ) (ws : List ℕ) (i top : ℕ) {x c v : ℕ} → i + 2 ≤ length ws → x ≡ get_or ws i 0 → c ≡ get_or counts q 0 → v ≡ capped top (0 + x * c)
    → window 1 (set ws (i + 1) v) (i + 1) ≡ weigh_at (counts, []) top 1 q (window 1 ws i)
weigh_is counts q ws i top room ex ec ev = (weigh_one counts [] q ws i top room ec refl (omega arith) ex ev 1 refl).1

-- add_own
module _ (ws : List ℕ) (i top : ℕ) {x : ℕ} (e : get_or ws i 0 ≡ x) where
  -- What a production counts itself.
  pub own_is : (counts : List ℕ) (q : ℕ) {c : ℕ} → c ≡ get_or counts q 0 → capped top (0 + x * c) ≡ weigh_at (counts, []) top 1 q (window 1 ws i) 0
  own_is counts q {c} ec =
      let two = x ∷ 0 ∷ [] in
      let z = weigh_one counts [] q two 0 top {v = capped top (0 + x * c)} (omega arith) ec refl (omega arith) refl refl 1 refl in
      first_weight 1 (set two 1 (capped top (0 + x * c))) 1 _ (omega arith) z.1
      ∙ ap (λ (w : Weights). weigh_at (counts, []) top 1 q w 0) (same_weight two ws 0 i refl e)

  -- How often it is put out.
  pub total_is : x ≤ top → x ≡ sum_of top (window 1 ws i)
  unfolding sum_of
  total_is l =
      let z : window 1 ws i 0 ≡ x = window_in 1 ws i 0 (omega arith) ∙ (let y : i + 0 ≡ i = omega arith in rw (y, e)) in
      let y = weighted_pick (window 1 ws i) (λ j. 1) 0 (omega arith) (λ j ne. none_of 1 (window_out 1 ws i j (omega arith))) in
      omega arith

-- A sum and a part that is counted up to the top itself.
pub capped_part : (top sum n : ℕ) {o : ℕ} → o ≡ capped top (sum + n) → o ≡ capped top (sum + capped top (0 + n))
capped_part top sum n h = omega arith
