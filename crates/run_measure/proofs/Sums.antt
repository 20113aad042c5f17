-- Sums over the numbers, and sums up to a top.
use Prim.Native.Nat.{ℕ, zero, suc, ◌+◌, ◌*◌, ◌≤◌, ◌<◌}
use mathlib.Core.Path.{◌≡◌, refl, ap, sym, ◌∙◌}
use native.Mathlib.Omega.{arith}
use native.Mathlib.Nat.{mul_comm, mul_assoc, mul-add, add-mul}
use lib.Dec.{ltb, leb}
use borrow.Author.Tests.{lt-ltb, le-ltb, leb-true, leb-false}
use Rattle.format_fields.proofs.Truth.{by_test}
use Rattle.run_measure.specs.Inner.Sizes.{sum_to, numbers, weighted, capped}

pub sum_zero : (n : ℕ) (h : ℕ → ℕ) → ((i : ℕ) → h i ≡ 0) → sum_to n h ≡ 0
unfolding sum_to
sum_zero zero h e = refl
sum_zero (suc n) h e = let r = sum_zero n (λ i. h (suc i)) (λ i. e (suc i)) in omega (arith, e 0)

-- All but one are 0.
pub sum_pick : (n b : ℕ) (h : ℕ → ℕ) → b < n → ((i : ℕ) → (b ≡ i → ⊥) → h i ≡ 0) → sum_to n h ≡ h b
unfolding sum_to
sum_pick zero b h l e = absurd (omega arith)
sum_pick (suc n) zero h l e = let r = sum_zero n (λ i. h (suc i)) (λ i. e (suc i) (λ q. omega arith)) in omega arith
sum_pick (suc n) (suc b) h l e =
    let r = sum_pick n b (λ i. h (suc i)) (omega arith) (λ i q. e (suc i) (λ z. q (let y : b ≡ i = omega arith in y))) in
    omega (arith, e 0 (λ z. omega arith))

pub sum_add : (n : ℕ) (h g : ℕ → ℕ) → sum_to n (λ i. h i + g i) ≡ sum_to n h + sum_to n g
unfolding sum_to
sum_add zero h g = refl
sum_add (suc n) h g = let r = sum_add n (λ i. h (suc i)) (λ i. g (suc i)) in omega arith

pub sum_times : (n c : ℕ) (h : ℕ → ℕ) → c * sum_to n h ≡ sum_to n (λ i. c * h i)
unfolding sum_to
sum_times zero c h = omega arith
sum_times (suc n) c h = mul-add c (h 0) (sum_to n (λ i. h (suc i))) ∙ ap (λ (x : ℕ). c * h 0 + x) (sum_times n c (λ i. h (suc i)))

sum_swap : (n m : ℕ) (h : ℕ → ℕ → ℕ) → sum_to n (λ i. sum_to m (λ j. h i j)) ≡ sum_to m (λ j. sum_to n (λ i. h i j))
unfolding sum_to
sum_swap zero m h = sym (sum_zero m (λ j. 0) (λ j. refl))
sum_swap (suc n) m h =
    ap (λ (x : ℕ). sum_to m (λ j. h 0 j) + x) (sum_swap n m (λ i j. h (suc i) j))
    ∙ sym (sum_add m (λ j. h 0 j) (λ j. sum_to n (λ i. h (suc i) j)))

pub sum_alike : (n : ℕ) (h g : ℕ → ℕ) → ((i : ℕ) → h i ≡ g i) → sum_to n h ≡ sum_to n g
sum_alike n h g e = λ x. sum_to n (λ i. e i x)

times_sum : (n c : ℕ) (h : ℕ → ℕ) → sum_to n h * c ≡ sum_to n (λ i. h i * c)
times_sum n c h = mul_comm (sum_to n h) c ∙ (sum_times n c h ∙ (λ x. sum_to n (λ i. mul_comm c (h i) x)))

-- Weights brought inside.
gather : (m : ℕ) (w : ℕ → ℕ) (u : ℕ → ℕ → ℕ) (s : ℕ → ℕ) → sum_to m (λ b. sum_to m (λ j. w j * u j b) * s b) ≡ sum_to m (λ j. w j * sum_to m (λ b. u j b * s b))
gather m w u s =
    (λ x. sum_to m (λ b. times_sum m (s b) (λ j. w j * u j b) x))
    ∙ ((λ x. sum_to m (λ b. sum_to m (λ j. mul_assoc (w j) (u j b) (s b) x)))
    ∙ (sum_swap m m (λ b j. w j * (u j b * s b))
    ∙ sym (λ x. sum_to m (λ j. sum_times m (w j) (λ b. u j b * s b) x))))

-- Weighted sums.
pub weighted_gather : (w : ℕ → ℕ) (u : ℕ → ℕ → ℕ) (s : ℕ → ℕ) → weighted (λ b. weighted w (λ j. u j b)) s ≡ weighted w (λ j. weighted (u j) s)
unfolding weighted
weighted_gather w u s = gather numbers w u s

pub weighted_add : (w a b : ℕ → ℕ) → weighted w a + weighted w b ≡ weighted w (λ j. a j + b j)
unfolding weighted
weighted_add w a b = sym ((λ x. sum_to numbers (λ j. mul-add (w j) (a j) (b j) x)) ∙ sum_add numbers (λ j. w j * a j) (λ j. w j * b j))

pub weighted_plus : (w v h : ℕ → ℕ) → weighted (λ j. w j + v j) h ≡ weighted w h + weighted v h
unfolding weighted
weighted_plus w v h = (λ x. sum_to numbers (λ j. add-mul (w j) (v j) (h j) x)) ∙ sum_add numbers (λ j. w j * h j) (λ j. v j * h j)

pub weighted_zero : (w h : ℕ → ℕ) → ((j : ℕ) → w j * h j ≡ 0) → weighted w h ≡ 0
unfolding weighted
weighted_zero w h e = sum_zero numbers (λ j. w j * h j) e

pub weighted_none : (w : ℕ → ℕ) → weighted w (λ j. 0) ≡ 0
weighted_none w = weighted_zero w (λ j. 0) (λ j. let z : w j * 0 ≡ 0 = omega arith in z)

pub weighted_alike : (w h v g : ℕ → ℕ) → ((j : ℕ) → w j * h j ≡ v j * g j) → weighted w h ≡ weighted v g
unfolding weighted
weighted_alike w h v g e = sum_alike numbers _ _ e

-- One number alone.
pub weighted_pick : (w h : ℕ → ℕ) (b : ℕ) → b < numbers → ((i : ℕ) → (b ≡ i → ⊥) → w i * h i ≡ 0) → weighted w h ≡ w b * h b
unfolding weighted
weighted_pick w h b l e = sum_pick numbers b (λ j. w j * h j) l e

pub weighted_times : (w : ℕ → ℕ) (c : ℕ) → weighted w (λ j. c) ≡ weighted w (λ j. 1) * c
unfolding weighted
weighted_times w c =
    sym (times_sum numbers c (λ j. w j * 1) ∙ sum_alike numbers _ _ (λ j. mul_assoc (w j) 1 c ∙ (let z : 1 * c ≡ c = omega arith in ap (λ (x : ℕ). w j * x) z)))

pub none_of : {c : ℕ} (d : ℕ) → c ≡ 0 → c * d ≡ 0
none_of d e = rw e (let z : 0 * d ≡ 0 = omega arith in z)

pub of_none : (c : ℕ) {d : ℕ} → d ≡ 0 → c * d ≡ 0
of_none c e = rw e (let z : c * 0 ≡ 0 = omega arith in z)

pub once_of : {c : ℕ} (d : ℕ) → c ≡ 1 → c * d ≡ d
once_of d e = rw e (let z : 1 * d ≡ d = omega arith in z)

-- Capping at each step comes to the same as capping once.
capped_under : (top a : ℕ) → a ≤ top → capped top a ≡ a
capped_under top a h = omega arith

capped_over : (top a : ℕ) → top ≤ a → capped top a ≡ top
capped_over top a h = omega arith

pub capped_add : (top a b : ℕ) → capped top (a + b) ≡ capped top (capped top a + capped top b)
capped_add top a b = omega arith

pub capped_times : (top u a : ℕ) → capped top (u * a) ≡ capped top (u * capped top a)
capped_times top zero a = omega arith
capped_times top (suc u) a =
    by_test (leb a top)
    (λ e. rw (capped_under top a (leb-true a top e)))
    (λ e.
    let h : top < a = leb-false a top e in
    let k : top ≤ suc u * a = omega arith in
    let j : top ≤ suc u * top = omega arith in
    let i : top ≤ a = omega arith in
    rw (capped_over top a i, capped_over top (suc u * a) k, capped_over top (suc u * top) j))

-- The same of what is weighed.
pub capped_weight : (top a u : ℕ) → capped top (capped top a * u) ≡ capped top (a * u)
capped_weight top a u = ap (capped top) (mul_comm (capped top a) u) ∙ (sym (capped_times top u a) ∙ ap (capped top) (mul_comm u a))

-- A sum whose terms come to the same up to the top.
capped_sum : (top n : ℕ) (h g : ℕ → ℕ) → ((i : ℕ) → capped top (h i) ≡ capped top (g i)) → capped top (sum_to n h) ≡ capped top (sum_to n g)
unfolding sum_to
capped_sum top zero h g e = refl
capped_sum top (suc n) h g e =
    let r = capped_sum top n (λ i. h (suc i)) (λ i. g (suc i)) (λ i. e (suc i)) in
    capped_add top (h 0) _ ∙ ((λ x. capped top (e 0 x + r x)) ∙ sym (capped_add top (g 0) _))

pub capped_weighted : (top : ℕ) (w v h : ℕ → ℕ) → ((j : ℕ) → capped top (w j) ≡ capped top (v j)) → capped top (weighted w h) ≡ capped top (weighted v h)
unfolding weighted
capped_weighted top w v h e =
    capped_sum top numbers _ _ (λ j. sym (capped_weight top (w j) (h j)) ∙ ((λ x. capped top (e j x * h j)) ∙ capped_weight top (v j) (h j)))

-- A length is over the room exactly if it is over it up to a top over the room; within the room it is whole.
pub over_room : (room top n : ℕ) → room < top → ltb room (capped top n) ≡ ltb room n
over_room room top n l =
    by_test (leb n room)
    (λ e. let h : n ≤ room = leb-true n room e in let k : capped top n ≤ room = omega arith in rw (le-ltb room n h, le-ltb room (capped top n) k))
    (λ e. let h : room < n = leb-false n room e in let k : room < capped top n = omega arith in rw (lt-ltb room n h, lt-ltb room (capped top n) k))

pub within_room : (room top n : ℕ) → room < top → capped top n ≤ room → capped top n ≡ n
within_room room top n l h = omega arith
