-- A sum of scores by their factors, from the last to the first, and scores that are kept one by one before they are added.
use Rattle.std.proofs.Math.Seq.{drop-cons}
use Rattle.std.proofs.lemmas.List.{get_or-take, get_or-drop, length-take}
use Prim.Native.Nat.{ℕ, suc, ◌+◌, ◌*◌, ◌-◌, ◌<◌, ◌≤◌}
use mathlib.Core.Path.{◌≡◌, refl, sym, ap, ◌∙◌}
use mathlib.Core.Bool.{Bool, true, false, cond}
use mathlib.Core.List.{List, [], ◌∷◌}
use native.Mathlib.Omega.{arith}
use lib.ListN.{length, get_or, set, drop, take, drop_of_length-le, replicate, get_or-replicate, get_or-eq_default, length-replicate}
use lib.Seq.{get_or-set_same, get_or-set_other}
use lib.Dec.{eqb, ltb}
use lib.IntN.{ℤ, pos, nat_abs, ◌+ℤ◌, ◌*ℤ◌, +ℤ_idr, +ℤ_assoc, +ℤ_comm}
use mir.Syntax.{w32, w64}
use mir.Val.{to_z, of_z}
use lib.Signed.{lt_z}
use borrow.Author.Tests.{eqb-true, eqb-false, ltb-true, ltb-false}
use Rattle.format_fields.proofs.Truth.{by_test}
use Rattle.score_tree.specs.declared.figures.Ends.{Ends}
use Rattle.score_tree.specs.Inner.Kept.{Small}
use Rattle.score_tree.specs.Inner.Sums.{turned, ends, weighed, Near, AllNear}
use Rattle.score_tree.proofs.Integers.{mul_within, add_within, back}

turned_near : (f x y : ℤ) → nat_abs x ≤ 1000000000 → nat_abs y ≤ 1000000000 → nat_abs (turned f x y) ≤ 1000000000
unfolding turned
turned_near f x y h k = go (lt_z f (pos 0))
  where
    go : (c : Bool) → nat_abs (cond c y x) ≤ 1000000000
    go true = k
    go false = h

-- The ends of an operand and a factor, as the machine reads them.
module _ (t : List Ends) (i : ℕ) (n : AllNear t) where
  pub operand_near : Near (get_or t i (ends (pos 0) (pos 0)))
  unfolding AllNear
  operand_near = n i

  pub low_back : to_z w64 (of_z w64 (get_or t i (ends (pos 0) (pos 0))).least) ≡ (get_or t i (ends (pos 0) (pos 0))).least
  low_back = let h = operand_near.least in back w64 _ (omega arith)

  pub high_back : to_z w64 (of_z w64 (get_or t i (ends (pos 0) (pos 0))).greatest) ≡ (get_or t i (ends (pos 0) (pos 0))).greatest
  high_back = let h = operand_near.greatest in back w64 _ (omega arith)

  pub low_near : nat_abs (to_z w64 (of_z w64 (get_or t i (ends (pos 0) (pos 0))).least)) ≤ 1000000000
  low_near = rw low_back operand_near.least

  pub high_near : nat_abs (to_z w64 (of_z w64 (get_or t i (ends (pos 0) (pos 0))).greatest)) ≤ 1000000000
  high_near = rw high_back operand_near.greatest

-- Ends that were tested are what the machine hands on of them.
pub ends_back : (e : Ends) → Near e → ends (to_z w64 (of_z w64 e.least)) (to_z w64 (of_z w64 e.greatest)) ≡ e
ends_back e n =
    let h = n.least in
    let k = n.greatest in
    let x : to_z w64 (of_z w64 e.least) ≡ e.least = back w64 e.least (omega arith) in
    let y : to_z w64 (of_z w64 e.greatest) ≡ e.greatest = back w64 e.greatest (omega arith) in
    rw (x, y) refl

pub factor_back : (fig : List ℤ) (i : ℕ) → Small fig → to_z w32 (of_z w32 (get_or fig i (pos 0))) ≡ get_or fig i (pos 0)
unfolding Small
factor_back fig i n = let h = n i in back w32 (get_or fig i (pos 0)) (omega arith)

pub factor_near : (fig : List ℤ) (i : ℕ) → Small fig → nat_abs (to_z w32 (of_z w32 (get_or fig i (pos 0)))) ≤ 32768
unfolding Small
factor_near fig i n = rw (factor_back fig i n) (n i)

-- So many figures from q on are small.
pub small_part : (fig : List ℤ) (q n : ℕ) → Small fig → Small (take n (drop q fig))
unfolding Small
small_part fig q n h i = by_test (ltb i n)
    (λ g. rw (get_or-take n (drop q fig) i (pos 0) (ltb-true i n g), get_or-drop) (h (q + i)))
    (λ g.
    let k = ltb-false i n g in
    let m = length-take n (drop q fig) in
    let e : get_or (take n (drop q fig)) i (pos 0) ≡ pos 0 = get_or-eq_default (take n (drop q fig)) (pos 0) {n = i} (omega arith) in
    rw e (omega arith))

-- And the first n operands near.
pub near_part : (t : List Ends) (n : ℕ) → AllNear t → AllNear (take n t)
unfolding AllNear
near_part t n h i = by_test (ltb i n)
    (λ g. rw (get_or-take n t i (ends (pos 0) (pos 0)) (ltb-true i n g)) (h i))
    (λ g.
    let k = ltb-false i n g in
    let m = length-take n t in
    let e : get_or (take n t) i (ends (pos 0) (pos 0)) ≡ ends (pos 0) (pos 0) = get_or-eq_default (take n t) (ends (pos 0) (pos 0)) {n = i} (omega arith) in
    rw e (record { least = omega arith; greatest = omega arith }))

-- The sum from operand i on.
abbrev pub weighed_from : (Ends → ℤ) → (Ends → ℤ) → List ℤ → List Ends → ℕ → ℤ
weighed_from same other factors t i = weighed same other (drop i factors) (drop i t)

-- Where the loop of `weigh` stands at an end: the scores from i on are added.
pub record Down (c : ℤ) (same other : Ends → ℤ) (factors : List ℤ) (t : List Ends) (total : ℤ) (i : ℕ) : Type 0 where
  pub near : nat_abs total ≤ 32768 + (length t - i) * 32768000000000
  pub is : total ≡ c +ℤ weighed_from same other factors t i

pub down_begin : (c : ℤ) (same other : Ends → ℤ) (factors : List ℤ) (t : List Ends) → length factors ≡ length t → nat_abs c ≤ 32768
    → Down c same other factors t c (length t)
unfolding weighed
down_begin c same other factors t e h =
    let f : drop (length t) factors ≡ [] = drop_of_length-le factors (omega arith) in
    record { near = omega arith; is = sym (+ℤ_idr c) ∙ ap (λ (k : List ℤ). c +ℤ weighed same other k (drop (length t) t)) (sym f) }

module _ {c : ℤ} {same other : Ends → ℤ} {factors : List ℤ} {t : List Ends} {total : ℤ} {i : ℕ} (v : Down c same other factors t total i) where
  pub down_small : length t ≤ 8 → nat_abs total ≤ 40000000000000000
  down_small k = omega (arith, v.near)

  -- The next operand is added: f, x and y are what the machine reads of the factor and the two ends of the operand.
  pub down_next : 0 < i → i ≤ length t → length factors ≡ length t → Small factors → (f x y next : ℤ)
      → nat_abs (same (get_or t (i - 1) (ends (pos 0) (pos 0)))) ≤ 1000000000 → nat_abs (other (get_or t (i - 1) (ends (pos 0) (pos 0)))) ≤ 1000000000
      → f ≡ get_or factors (i - 1) (pos 0) → x ≡ same (get_or t (i - 1) (ends (pos 0) (pos 0))) → y ≡ other (get_or t (i - 1) (ends (pos 0) (pos 0)))
      → next ≡ total +ℤ f *ℤ turned f x y → Down c same other factors t next (i - 1)
  unfolding Small weighed
  down_next h m long small f x y next near far ef ex ey en =
      let g = get_or factors (i - 1) (pos 0) in
      let e = get_or t (i - 1) (ends (pos 0) (pos 0)) in
      let u = turned g (same e) (other e) in
      let r = weighed_from same other factors t i in
      let j : suc (i - 1) ≡ i = omega arith in
      let end : turned f x y ≡ u = λ k. turned (ef k) (ex k) (ey k) in
      let product : f *ℤ turned f x y ≡ g *ℤ u = λ k. ef k *ℤ end k in
      let first : drop (i - 1) factors ≡ g ∷ drop i factors = drop-cons factors (i - 1) (pos 0) (omega arith) ∙ ap (λ (k : ℕ). g ∷ drop k factors) j in
      let second : drop (i - 1) t ≡ e ∷ drop i t = drop-cons t (i - 1) (ends (pos 0) (pos 0)) (omega arith) ∙ ap (λ (k : ℕ). e ∷ drop k t) j in
      let one : weighed_from same other factors t (i - 1) ≡ g *ℤ u +ℤ r = λ k. weighed same other (first k) (second k) in
      let bound : nat_abs (total +ℤ g *ℤ u) ≤ 32768 + (length t - i) * 32768000000000 + 32768000000000 =
      add_within total (g *ℤ u) _ 32768000000000 v.near (mul_within g u 32768 1000000000 (small (i - 1)) (turned_near g _ _ near far)) in
      let sum : next ≡ total +ℤ g *ℤ u = en ∙ ap (λ (k : ℤ). total +ℤ k) product in
      record {
        near = rw sum (omega (arith, bound));
        is =
            sum
            ∙ (ap (λ (k : ℤ). k +ℤ g *ℤ u) v.is
            ∙ (+ℤ_assoc c r (g *ℤ u) ∙ (ap (λ (k : ℤ). c +ℤ k) (+ℤ_comm r (g *ℤ u)) ∙ ap (λ (k : ℤ). c +ℤ k) (sym one))));
      }

  pub down_end : i ≤ 0 → (d : ℤ) → c ≡ d → total ≡ d +ℤ weighed same other factors t
  down_end h d e =
      let z : i ≡ 0 = omega arith in
      v.is ∙ (ap (λ (j : ℕ). c +ℤ weighed_from same other factors t j) z ∙ ap (λ (y : ℤ). y +ℤ weighed same other factors t) e)

-- All operands are near: in an array of zeros, after a store.
pub zeros_near : (n : ℕ) → AllNear (replicate n (ends (pos 0) (pos 0)))
unfolding AllNear
zeros_near n i = by_test (ltb i n)
    (λ h. rw (lib.ListN.get_or-replicate n i (ends (pos 0) (pos 0)) (ends (pos 0) (pos 0)) (ltb-true i n h)) (record { least = omega arith; greatest = omega arith }))
    (λ h. rw (lib.ListN.get_or-eq_default (replicate n (ends (pos 0) (pos 0))) (ends (pos 0) (pos 0)) {n = i} (rw length-replicate (ltb-false i n h))) (record { least = omega arith; greatest = omega arith }))

pub store_near : (l : List Ends) (i : ℕ) (x : Ends) → i < length l → AllNear l → Near x → AllNear (set l i x)
unfolding AllNear
store_near l i x h n b j = by_test (eqb j i)
    (λ q. let e = eqb-true j i q in rw (e, get_or-set_same l i x (ends (pos 0) (pos 0)) h) b)
    (λ q. rw (get_or-set_other l i j x (ends (pos 0) (pos 0)) (eqb-false j i q)) (n j))
